use Rattle.name_jobs.proofs.Races.{group_race}
use Rattle.name_jobs.proofs.laws.group_race.Goals as goal

pub returns : goal.returns
returns c = group_race
