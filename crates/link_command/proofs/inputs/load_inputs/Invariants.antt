use Rattle.std.proofs.Common.{take, map}
use Rattle.link_words.specs.Words.{word}
use Rattle.link_command.proofs.Loads.{SoFar}
use Rattle.link_command.proofs.inputs.load_inputs.Given as goal

abbrev pub invariant-loop-input : goal.invariant-loop-input
invariant-loop-input g l =
    SoFar (g.F.Shelf.shown l.initial.shelf) (g.F.Shelf.shown l.shelf) (map (word l.words) (map (λ i. i.place) (take l.input-index l.input-items))) l.files
