use Rattle.std.proofs.Common.{◌≡◌}
use Rattle.link_marks.specs.Alive.{numbers_set}
use Rattle.link_marks.proofs.live.numbers_of.Given as goal

abbrev pub invariant-loop-number : goal.invariant-loop-number
invariant-loop-number l = l.numbers ≡ numbers_set l.set.words l.number
