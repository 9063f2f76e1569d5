use Rattle.std.proofs.Common.{subst, sym}
use Rattle.wl_base.specs.declared.fault.Part.{Part}
use Rattle.wl_outside.specs.Sink.{Wrote}
use Rattle.link_lines.specs.Faults.{part_line}
use Rattle.link_lines.proofs.fault_line.say_malformed.Goals as goal

pub returns-in-Section : goal.returns-in-Section
returns-in-Section g c =
    subst (λ (p : Part). Wrote c.say_input.result (part_line c.args.input p) (g.E.Sink.told c.args.say.now) (g.E.Sink.told c.say_input.new.say))
    (sym c.in-Section.is) c.say_input.ensures

pub returns-in-Cross : goal.returns-in-Cross
returns-in-Cross g c =
    subst (λ (p : Part). Wrote c.say_input-in-Cross.result (part_line c.args.input p) (g.E.Sink.told c.args.say.now)
    (g.E.Sink.told c.say_input-in-Cross.new.say)) (sym c.in-Cross.is) c.say_input-in-Cross.ensures
