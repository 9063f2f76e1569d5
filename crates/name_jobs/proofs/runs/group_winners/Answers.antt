use Rattle.name_jobs.proofs.Made.{group_words_at, group_ranks_at}
use Rattle.name_jobs.proofs.Races.{groups_are}
use Rattle.name_jobs.proofs.runs.group_winners.Goals as goal

pub pick-requires-clause-words : goal.pick-requires-clause-words
pick-requires-clause-words g c κs within =
    group_words_at c.args.names.now.names c.args.objects.now c.new-jobs.result c.count.result c.new-jobs.ensures c.count.ensures

pub pick-requires-clause-inputs : goal.pick-requires-clause-inputs
pick-requires-clause-inputs g c κs within =
    group_ranks_at c.args.names.now.names c.args.objects.now c.new-jobs.result c.new-jobs.ensures c.requires.inputs

pub returns : goal.returns
returns g c =
    groups_are c.args.objects.now c.args.names.now c.new-jobs.result c.in_ok-winners.winners c.requires.differ
    c.requires.inputs c.new-jobs.ensures c.in_ok-winners.ensures
