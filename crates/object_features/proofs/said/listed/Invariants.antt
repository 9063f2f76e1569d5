use Rattle.std.proofs.Common.{◌≡◌, [], length}
use Rattle.debug_out.specs.Inputs.{inputs_of}
use Rattle.object_features.specs.Onto.{said_onto}
use Rattle.object_features.proofs.said.listed.Given as goal

abbrev pub invariant-loop-os : goal.invariant-loop-os
invariant-loop-os l = said_onto l.lists (inputs_of l.files l.os l.ss) ≡ said_onto [] (inputs_of l.files l.objects l.spans)

abbrev pub decreases-loop-os : goal.decreases-loop-os
decreases-loop-os l = length l.os
