use Rattle.std.proofs.Common.{◌≡◌, length, map}
use Rattle.debug_rules.specs.Faults.{debugs}
use Rattle.debug_out.specs.Answers.{onto}
use Rattle.debug_out.specs.Inputs.{inputs_of}
use Rattle.debug_out.specs.Refs.{debug_seen}
use Rattle.debug_out.proofs.faults.debugs.Given as goal

abbrev pub invariant-loop-os : goal.invariant-loop-os
invariant-loop-os l = onto (map debug_seen l.all) (debugs l.object (inputs_of l.files l.os l.ss)) ≡ debugs 0 (inputs_of l.files l.objects l.spans)

abbrev pub decreases-loop-os : goal.decreases-loop-os
decreases-loop-os l = length l.os
