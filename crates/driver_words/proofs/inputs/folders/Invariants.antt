use Rattle.std.proofs.Common.{◌≡◌, ◌++◌, drop}
use Rattle.driver_words.specs.Inputs.{folders_of}
use Rattle.driver_words.proofs.inputs.folders.Given as goal

abbrev pub invariant-loop-item : goal.invariant-loop-item
invariant-loop-item l = l.folders ++ folders_of (drop l.item-index l.items) ≡ folders_of l.items
