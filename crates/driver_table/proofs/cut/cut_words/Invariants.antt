use Rattle.std.proofs.Common.{◌≡◌, drop}
use Rattle.driver_table.specs.Cut.{behind, cut_from, cut_of}
use Rattle.driver_table.proofs.cut.cut_words.Given as goal

abbrev pub invariant-loop-word : goal.invariant-loop-word
invariant-loop-word l = behind l.items (cut_from l.waiting (drop l.word-index l.words)) ≡ cut_of l.words
