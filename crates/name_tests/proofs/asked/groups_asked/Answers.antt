use Rattle.std.proofs.Common.{◌∙◌}
use Rattle.name_jobs.proofs.Made.{group_words_at, group_ranks_at}
use Rattle.name_tests.proofs.asked.groups_asked.Goals as goal

pub pick-requires-clause-words : goal.pick-requires-clause-words
pick-requires-clause-words g c κs within =
    group_words_at c.args.names.now.names c.args.objects.now c.in_ok-jobs.jobs.jobs c.count.result (c.in_ok-jobs.ensures ∙ c.new.ensures) c.count.ensures

pub pick-requires-clause-inputs : goal.pick-requires-clause-inputs
pick-requires-clause-inputs g c κs within =
    group_ranks_at c.args.names.now.names c.args.objects.now c.in_ok-jobs.jobs.jobs (c.in_ok-jobs.ensures ∙ c.new.ensures) c.requires.inputs
