use Rattle.std.proofs.Common.{◌≡◌, Result, subst, sym}
use Rattle.wl_base.specs.declared.fault.Fault.{Fault}
use Rattle.wl_outside.specs.declared.sink.Failed.{Failed}
use Rattle.wl_outside.specs.Sink.{Told, Wrote}
use Rattle.link_lines.specs.Faults.{fault_line}
use Rattle.link_lines.proofs.fault_line.say_fault.Goals as goal

-- the line of a fault is that of the variant that it is
at : (r : Result (Unit {0}) Failed) (old new : Told) (fault variant : Fault) → fault ≡ variant → Wrote r (fault_line variant) old new
    → Wrote r (fault_line fault) old new
at r old new fault variant is wrote = subst (λ (f : Fault). Wrote r (fault_line f) old new) (sym is) wrote

pub returns-in-IndexLies : goal.returns-in-IndexLies
returns-in-IndexLies g c = at _ _ _ _ _ c.in-IndexLies.is c.say_input-in-IndexLies.ensures

pub returns-in-Duplicate : goal.returns-in-Duplicate
returns-in-Duplicate g c = at _ _ _ _ _ c.in-Duplicate.is c.say_pair-in-Duplicate.ensures

pub returns-in-BadDebug : goal.returns-in-BadDebug
returns-in-BadDebug g c = at _ _ _ _ _ c.in-BadDebug.is c.say_input-in-BadDebug.ensures

pub returns-in-DebugTooLong : goal.returns-in-DebugTooLong
returns-in-DebugTooLong g c = at _ _ _ _ _ c.in-DebugTooLong.is c.say_number-in-DebugTooLong.ensures

pub returns-in-NotPartial : goal.returns-in-NotPartial
returns-in-NotPartial g c = at _ _ _ _ _ c.in-NotPartial.is c.say_number-in-NotPartial.ensures

pub returns-in-PartialTooLong : goal.returns-in-PartialTooLong
returns-in-PartialTooLong g c = at _ _ _ _ _ c.in-PartialTooLong.is c.say_number-in-PartialTooLong.ensures

pub returns-in-Uncalled : goal.returns-in-Uncalled
returns-in-Uncalled g c = at _ _ _ _ _ c.in-Uncalled.is c.print-in-Uncalled.ensures

pub returns-in-Feature : goal.returns-in-Feature
returns-in-Feature g c = at _ _ _ _ _ c.in-Feature.is c.say_feature.ensures
