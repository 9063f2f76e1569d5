use Rattle.race_tests.proofs.Grids.{items_at}
use Rattle.race_tests.proofs.grid_jobs.GridJobsJobs.items.Goals as goal

pub returns : goal.returns
returns c = items_at c.args.self.now.jobs c.args.self.now.items c.args._job c.requires
