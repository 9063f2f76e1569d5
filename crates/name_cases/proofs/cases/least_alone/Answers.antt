use Rattle.std.proofs.Common.{◌≡◌, ◌+◌, ◌∙◌, [], map, drop, get_or, Option, Some, None, sym, ap, arith}
use Rattle.std.specs.Option.{option_or}
use Rattle.name_entries.specs.wl_base.Choice.{first_some}
use Rattle.name_entries.specs.name_rules.declared.case.PairCase.{PairCase}
use Rattle.name_cases.specs.Rows.{entries_in, names_shown, rows_shown}
use Rattle.name_cases.specs.Search.{case_in, compared}
use Rattle.name_cases.proofs.Search.{rest_is, rest_none}
use Rattle.name_cases.proofs.cases.least_alone.Goals as goal

pub returns-in-Some : goal.returns-in-Some
returns-in-Some c =
    let s = c.args.comparison.now in
    let rows = rows_shown s.rows in
    let f = case_in s.question (names_shown s.rows) (compared s.question (entries_in rows)) in
    let row = c.loop-row.row in
    let here : f (get_or rows row []) ≡ Some c.in-Some.case = sym c.case_in.ensures ∙ c.in-Some.is in
    sym (ap (λ (o : Option PairCase). option_or o (first_some (map f (drop (row + 1) rows)))) here) ∙ sym (rest_is f rows row [] (omega arith)) ∙ c.loop-row.invariant

pub loop-row-preserved : goal.loop-row-preserved
loop-row-preserved c =
    let s = c.args.comparison.now in
    let rows = rows_shown s.rows in
    let f = case_in s.question (names_shown s.rows) (compared s.question (entries_in rows)) in
    let row = c.loop-row.row in
    let here : f (get_or rows row []) ≡ None = sym c.case_in.ensures ∙ c.in_default.is in
    sym (ap (λ (o : Option PairCase). option_or o (first_some (map f (drop (row + 1) rows)))) here) ∙ sym (rest_is f rows row [] (omega arith)) ∙ c.loop-row.invariant

pub returns : goal.returns
returns c =
    let s = c.args.comparison.now in
    let rows = rows_shown s.rows in
    let f = case_in s.question (names_shown s.rows) (compared s.question (entries_in rows)) in
    sym (rest_none f rows c.loop-row.row (omega arith)) ∙ c.loop-row.invariant
