-- Jobs of equal length, all for word 0, whose ranks rise with the job.
use Rattle.std.specs.Prelude.{ℕ, ◌+◌, List, map, replicate, Some}
use Rattle.std.specs.List.{range_with_len}
use Rattle.least_race.specs.Jobs.{Job}
use Rattle.least_race.specs.Race.{offer}

abbrev pub row : ℕ → ℕ → Job
row items job = replicate items (Some (offer 0 (job + 4)))

abbrev pub grid : ℕ → ℕ → List Job
grid jobs items = map (row items) (range_with_len 0 jobs)
