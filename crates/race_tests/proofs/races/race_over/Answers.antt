use Rattle.race_tests.proofs.Grids.{few_jobs, words_below, ranks_made}
use Rattle.race_tests.proofs.races.race_over.Goals as goal

pub race-requires-clause-jobs : goal.race-requires-clause-jobs
race-requires-clause-jobs g c κs within = few_jobs c.args.jobs.now.jobs.jobs c.args.jobs.now.jobs.items c.args.jobs.now.jobs.few

pub race-requires-clause-words : goal.race-requires-clause-words
race-requires-clause-words g c κs within = words_below c.args.jobs.now.jobs.jobs c.args.jobs.now.jobs.items

pub race-requires-clause-ranks : goal.race-requires-clause-ranks
race-requires-clause-ranks g c κs within = ranks_made c.args.jobs.now.jobs.jobs c.args.jobs.now.jobs.items c.args.jobs.now.jobs.few
