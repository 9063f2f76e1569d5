use Rattle.std.proofs.Common.{◌+◌, ap, ◌∙◌, Some}
use Rattle.least_race.specs.Race.{offer}
use Rattle.race_tests.proofs.Grids.{offer_at}
use Rattle.race_tests.proofs.grid_jobs.GridJobsJobs.offer.Goals as goal

pub returns : goal.returns
returns c = ap (λ n. Some (offer 0 (n + 4))) c.from.ensures ∙ offer_at c.args.self.now.jobs c.args.self.now.items c.args.job c.args._item c.requires.0 c.requires.1
