use Rattle.std.proofs.Common.{◌≡◌, ◌++◌, take}
use Rattle.name_entries.proofs.pieces.add_rows.Given as goal

abbrev pub invariant-loop-at : goal.invariant-loop-at
invariant-loop-at l = l.rows ≡ l.initial.rows ++ take l.at l.more
