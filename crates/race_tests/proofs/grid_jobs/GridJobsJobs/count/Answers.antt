use Rattle.std.proofs.Common.{sym}
use Rattle.race_tests.proofs.Grids.{length_grid}
use Rattle.race_tests.proofs.grid_jobs.GridJobsJobs.count.Goals as goal

pub returns : goal.returns
returns c = sym (length_grid c.args.self.now.jobs c.args.self.now.items)
