use Rattle.std.proofs.Common.{◌≡◌, true, take}
use Rattle.std.specs.List.{list_all}
use Rattle.name_meanings.specs.Means.{means_something}
use Rattle.name_meanings.proofs.resolution.all_rows_mean.Given as goal

abbrev pub invariant-loop-at : goal.invariant-loop-at
invariant-loop-at l = list_all (list_all means_something) (take l.at l.rows) ≡ true
