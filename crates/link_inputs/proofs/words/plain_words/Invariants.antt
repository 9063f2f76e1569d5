use Rattle.std.proofs.Common.{◌≡◌, replicate}
use Rattle.link_program.specs.link_rules.Candidates.{plain_word}
use Rattle.link_inputs.proofs.words.plain_words.Given as goal

abbrev pub invariant-loop-at : goal.invariant-loop-at
invariant-loop-at l = l.words ≡ replicate l._at plain_word
