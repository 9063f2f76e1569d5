use Rattle.std.proofs.Common.{rules, [], ◌∷◌}
use Rattle.rounds_tests.proofs.Tested.{are_candidates, one_is_read}
use Rattle.rounds_tests.proofs.rounds.called.Goals as goal

pub load_rounds-answer-requires-sync-R : goal.load_rounds-answer-requires-sync-R
load_rounds-answer-requires-sync-R g c κs within =
    let are = are_candidates c.args.given c.args.library (c.args.file ∷ []) c.requires.numbered c.requires.first c.requires.few in
    let read = one_is_read (c.args.file ∷ []) c.args.library c.requires.read in
    search (rules, are, read)
