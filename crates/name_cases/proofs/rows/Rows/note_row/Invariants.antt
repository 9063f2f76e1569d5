use Rattle.std.proofs.Common.{◌≡◌, [], length, take, filter}
use Rattle.std.specs.Prelude.{slice_index_or}
use Rattle.name_entries.specs.name_rules.Entries.{is_entry}
use Rattle.name_cases.specs.Firsts.{Adds}
use Rattle.name_cases.specs.Rows.{names_shown, rows_shown}
use Rattle.name_cases.proofs.rows.Rows.note_row.Given as goal

abbrev pub invariant-loop-place : goal.invariant-loop-place
invariant-loop-place l =
    (length l.firsts ≡ length (names_shown l.self))
    × Adds l.question (names_shown l.self) (rows_shown l.self) l.initial.firsts l.firsts (filter is_entry (take l.place (slice_index_or (rows_shown l.self) l.row [])))
