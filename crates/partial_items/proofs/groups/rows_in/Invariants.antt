use Rattle.std.proofs.Common.{◌≡◌, ◌++◌, map, drop}
use Rattle.partial_bytes.specs.Told.{group_told}
use Rattle.partial_items.specs.Groups.{rows_from}
use Rattle.partial_items.proofs.groups.rows_in.Given as goal

abbrev pub invariant-loop-at : goal.invariant-loop-at
invariant-loop-at l = map group_told l.rows ++ rows_from l.objects l.members l.at (drop l.at l.groups) ≡ rows_from l.objects l.members 0 l.groups
