use Rattle.std.proofs.Common.{sym, ◌∙◌, arith}
use Rattle.name_cases.specs.Rows.{entries_in, names_shown, rows_shown}
use Rattle.name_cases.specs.Search.{compared}
use Rattle.name_cases.proofs.Beside.{row_found, row_goes_on}
use Rattle.name_cases.proofs.cases.Comparison.case_in.Goals as goal

pub returns-in-Some : goal.returns-in-Some
returns-in-Some c =
    let s = c.args.self.now in
    row_found s.question (names_shown s.rows) (rows_shown s.rows) (compared s.question (entries_in (rows_shown s.rows))) s.firsts.now c.requires.firsts c.args.row c.loop-place.place c.in-Some.case _ (omega arith)
    (sym c.in-Some.is ∙ c.case_at.ensures) c.loop-place.invariant

pub loop-place-preserved : goal.loop-place-preserved
loop-place-preserved c =
    let s = c.args.self.now in
    row_goes_on s.question (names_shown s.rows) (rows_shown s.rows) (compared s.question (entries_in (rows_shown s.rows))) s.firsts.now c.requires.firsts c.args.row c.loop-place.place _ (omega arith)
    (sym c.in_default.is ∙ c.case_at.ensures) c.loop-place.invariant
