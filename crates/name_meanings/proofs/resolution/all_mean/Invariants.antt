use Rattle.std.proofs.Common.{◌≡◌, true, take}
use Rattle.std.specs.List.{list_all}
use Rattle.name_meanings.specs.Means.{means_something}
use Rattle.name_meanings.proofs.resolution.all_mean.Given as goal

abbrev pub invariant-loop-meaning : goal.invariant-loop-meaning
invariant-loop-meaning l = list_all means_something (take l.meaning-index l.row) ≡ true
