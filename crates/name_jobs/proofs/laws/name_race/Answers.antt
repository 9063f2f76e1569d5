use Rattle.name_jobs.proofs.Races.{name_race}
use Rattle.name_jobs.proofs.laws.name_race.Goals as goal

pub returns : goal.returns
returns c = name_race
