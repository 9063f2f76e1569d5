use Rattle.std.proofs.Common.{◌≡◌, take}
use Rattle.driver_words.proofs.spread.texts.Given as goal

abbrev pub invariant-loop-word : goal.invariant-loop-word
invariant-loop-word l = l.texts ≡ take l.word-index l.words
