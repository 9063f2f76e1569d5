use Rattle.std.proofs.Common.{drop}
use Rattle.rounds_tests.proofs.Tested.{NumberedFrom}
use Rattle.rounds_tests.proofs.rounds.are_numbered.Given as goal

abbrev pub invariant-loop-one : goal.invariant-loop-one
invariant-loop-one l = NumberedFrom l.last (drop l.one-index l.given) → NumberedFrom 0 l.given
