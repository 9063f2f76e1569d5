-- The least case, in the words of the code's rows.
use Rattle.std.specs.Prelude.{ℕ, List, [], map, slice_index_or, Option}
use Rattle.name_entries.specs.wl_base.Choice.{first_some}
use Rattle.name_entries.specs.name_rules.declared.case.PairCase.{PairCase}
use Rattle.name_entries.specs.object_file.declared.object.Object.{Object}
use Rattle.name_entries.specs.made_symbols.declared.mode.Mode.{Mode}
use Rattle.name_cases.specs.declared.cases.Comparison.{Comparison}
use Rattle.name_cases.specs.declared.cases.Judges.{Judges}
use Rattle.name_cases.specs.declared.question.Question.{Question}
use Rattle.name_cases.specs.declared.question.Question.TheVariants.{Mismatches}
use Rattle.name_cases.specs.declared.rows.Rows.{Rows}
use Rattle.name_cases.specs.declared.rows.Spot.{Spot}
use Rattle.name_cases.specs.Firsts.{AreFirsts}
use Rattle.name_cases.specs.Rows.{RowsFit, all_rows, entries_in, names_shown, rows_shown}
use Rattle.name_cases.specs.Search.{case_in, compared}

-- The least case of a row.
abbrev pub row_case : Question → Rows → ℕ → Option PairCase
row_case q rows row = case_in q (names_shown rows) (compared q (entries_in (rows_shown rows))) (slice_index_or (rows_shown rows) row [])

-- The least case of all rows.
abbrev pub least_case : Question → Rows → Option PairCase
least_case q rows = first_some (map (case_in q (names_shown rows) (compared q (entries_in (rows_shown rows)))) (rows_shown rows))

-- The column tells the least entries of all rows.
abbrev pub HasFirsts : Question → Rows → List (Option Spot) → Type 0
HasFirsts q rows column = AreFirsts q (names_shown rows) (rows_shown rows) (compared q (entries_in (rows_shown rows))) column

pub record IsReady (c : Comparison) : Type 0 where
  pub fits : RowsFit c.rows
  pub firsts : HasFirsts c.question c.rows c.firsts.now

-- The column tells the entries by which those of the objects are judged.
abbrev pub AreJudges : Mode → List Object → List (List ℕ) → Judges → Type 0
AreJudges mode objects names j = AreFirsts Mismatches names (all_rows mode objects) (compared Mismatches (entries_in (all_rows mode objects))) j.firsts
