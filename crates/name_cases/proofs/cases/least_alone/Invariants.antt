use Rattle.std.proofs.Common.{◌≡◌, map, drop}
use Rattle.name_entries.specs.wl_base.Choice.{first_some}
use Rattle.name_cases.specs.Rows.{entries_in, names_shown, rows_shown}
use Rattle.name_cases.specs.Search.{case_in, compared}
use Rattle.name_cases.specs.Least.{least_case}
use Rattle.name_cases.proofs.cases.least_alone.Given as goal

abbrev pub invariant-loop-row : goal.invariant-loop-row
invariant-loop-row l =
    first_some (map (case_in l.comparison.question (names_shown l.comparison.rows) (compared l.comparison.question (entries_in (rows_shown l.comparison.rows)))) (drop l.row (rows_shown l.comparison.rows)))
    ≡ least_case l.comparison.question l.comparison.rows
