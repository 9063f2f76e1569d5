use Rattle.std.proofs.Common.{◌≡◌, drop}
use Rattle.link_marks.specs.Open.{first_missing}
use Rattle.link_marks.proofs.open.first_missing.Given as goal

abbrev pub invariant-loop-word : goal.invariant-loop-word
invariant-loop-word l = first_missing l.names.names l.ranks (drop l.word-index l.words) ≡ first_missing l.names.names l.ranks l.words
