use Rattle.std.proofs.Common.{◌≡◌, length, take}
use Rattle.name_cases.specs.Firsts.{Adds}
use Rattle.name_cases.specs.Rows.{entries_in, names_shown, rows_shown}
use Rattle.name_cases.proofs.rows.Rows.note_rows.Given as goal

abbrev pub invariant-loop-row : goal.invariant-loop-row
invariant-loop-row l =
    (length l.firsts ≡ length (names_shown l.self))
    × Adds l.question (names_shown l.self) (rows_shown l.self) l.initial.firsts l.firsts (entries_in (take l.row (rows_shown l.self)))
