use Rattle.race_tests.proofs.Grids.{few_jobs, words_below, ranks_below}
use Rattle.race_tests.proofs.races.pick_over.Goals as goal

pub pick-requires-clause-jobs : goal.pick-requires-clause-jobs
pick-requires-clause-jobs g c κs within = few_jobs c.args.jobs.now.jobs.jobs c.args.jobs.now.jobs.items c.args.jobs.now.jobs.few

pub pick-requires-clause-words : goal.pick-requires-clause-words
pick-requires-clause-words g c κs within = words_below c.args.jobs.now.jobs.jobs c.args.jobs.now.jobs.items

pub pick-requires-clause-inputs : goal.pick-requires-clause-inputs
pick-requires-clause-inputs g c κs within = ranks_below c.args.jobs.now.jobs.jobs c.args.jobs.now.jobs.items c.args.jobs.now.jobs.few
