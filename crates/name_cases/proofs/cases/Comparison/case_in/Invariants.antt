use Rattle.std.proofs.Common.{◌≡◌, [], map, drop}
use Rattle.std.specs.Prelude.{slice_index_or}
use Rattle.name_entries.specs.wl_base.Choice.{first_some}
use Rattle.name_cases.specs.Rows.{entries_in, names_shown, rows_shown}
use Rattle.name_cases.specs.Search.{case_at, case_in, compared}
use Rattle.name_cases.proofs.cases.Comparison.case_in.Given as goal

abbrev pub invariant-loop-place : goal.invariant-loop-place
invariant-loop-place l =
    first_some (map (case_at l.self.question (names_shown l.self.rows) (compared l.self.question (entries_in (rows_shown l.self.rows)))) (drop l.place (slice_index_or (rows_shown l.self.rows) l.row [])))
    ≡ case_in l.self.question (names_shown l.self.rows) (compared l.self.question (entries_in (rows_shown l.self.rows))) (slice_index_or (rows_shown l.self.rows) l.row [])
