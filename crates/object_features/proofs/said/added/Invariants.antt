use Rattle.std.proofs.Common.{◌≡◌, length}
use Rattle.debug_out.specs.Inputs.{inputs_of}
use Rattle.object_features.specs.Onto.{none_noted, noted_onto, Has}
use Rattle.object_features.specs.Used.{last_seen}
use Rattle.object_features.proofs.said.added.Given as goal

abbrev pub invariant-loop-os : goal.invariant-loop-os
invariant-loop-os l =
    (noted_onto l.used.together (inputs_of l.files l.os l.ss) ≡ noted_onto none_noted (inputs_of l.files l.objects l.spans))
    × Has l.used.together (last_seen l.used)

abbrev pub decreases-loop-os : goal.decreases-loop-os
decreases-loop-os l = length l.os
