use Rattle.std.proofs.Common.{◌≡◌, ℕ, ◌-◌, ◌∙◌, [], map, Option, is_some, ap, arith}
use Rattle.std.specs.List.{find, range_with_len}
use Rattle.std.specs.Option.{option_flatten}
use Rattle.std.proofs.lemmas.Slice.Zip.{AllZip-map}
use Rattle.rayon.specs.Numbers.{nat_range}
use Rattle.rayon.proofs.ToStd.{answers-by_ref, filter_by_mask-find}
use Rattle.name_entries.specs.name_rules.declared.case.PairCase.{PairCase}
use Rattle.name_cases.specs.Rows.{entries_in, names_shown, rows_shown}
use Rattle.name_cases.specs.Least.{row_case}
use Rattle.name_cases.specs.Search.{case_in, compared}
use Rattle.name_cases.proofs.Search.{first_answer, by_places}
use Rattle.name_cases.proofs.cases.least_by_threads.Goals as goal

pub returns : goal.returns
returns g c =
    let s = c.args.comparison.now in
    let rows = rows_shown s.rows in
    let f = case_in s.question (names_shown s.rows) (compared s.question (entries_in rows)) in
    let found = c.find_first.ensures in
    let chain = found.2 in
    let ends = c.into_par_iter.ensures in
    let at = λ (r : ℕ). row_case c.map.result.f.0.now.question c.map.result.f.0.now.rows r in
    let whole : c.count.result - 0 ≡ c.count.result = omega arith in
    let places : chain.0 ≡ range_with_len 0 c.count.result =
    chain.1 ∙ (λ i. nat_range (c.map.ensures.base i).base.start (c.map.ensures.base i).base.end)
    ∙ (λ i. nat_range (c.with_min_len.ensures.base i).start (c.with_min_len.ensures.base i).end)
    ∙ (λ i. nat_range (ends.0 i) (ends.1 i)) ∙ ap (range_with_len 0) whole in
    let answers : found.0 ≡ map f rows =
    AllZip-map at chain.0 found.0 chain.2 ∙ (λ i. map (λ (r : ℕ). row_case (c.map.ensures.f i).0.now.question (c.map.ensures.f i).0.now.rows r) (places i))
    ∙ by_places f rows [] c.count.result c.count.ensures in
    let first = filter_by_mask-find {X = Option PairCase} is_some found.0 found.1 (answers-by_ref {X = Option PairCase} is_some found.0 found.1 found.3) in
    c.flatten.ensures ∙ ap option_flatten (found.4 ∙ first ∙ ap (find is_some) answers) ∙ first_answer (map f rows)
