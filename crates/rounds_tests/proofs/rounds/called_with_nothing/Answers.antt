use Rattle.std.proofs.Common.{rules}
use Rattle.rounds_tests.proofs.Tested.{none_given}
use Rattle.rounds_tests.proofs.rounds.called_with_nothing.Goals as goal

pub load_rounds-requires-sync-R : goal.load_rounds-requires-sync-R
load_rounds-requires-sync-R g c κs within = let are = none_given in search (rules, are)
