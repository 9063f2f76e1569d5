-- The least case, by the column and by rows.
use Rattle.std.proofs.Common.{◌≡◌, ℕ, ◌+◌, ◌<◌, Bool, true, false, cond, ◌&&◌, List, [], length, get_or, drop, map, Option, Some, None, refl, sym, ap, ◌∙◌, nat_eq, arith}
use Rattle.std.specs.Option.{option_map, option_or, option_and_then}
use Rattle.std.proofs.lemmas.Bool.Decides.{nat_tests}
use Rattle.name_entries.specs.wl_base.Choice.{first_some, given}
use Rattle.name_entries.specs.wl_base.Names.{number_of}
use Rattle.name_entries.specs.name_rules.declared.case.PairCase.{PairCase}
use Rattle.name_entries.specs.name_rules.Entries.{InputSymbol, name_of, is_entry}
use Rattle.name_entries.specs.View.{entry_number}
use Rattle.name_cases.specs.declared.question.Question.{Question}
use Rattle.name_cases.specs.declared.rows.Spot.{Spot}
use Rattle.name_cases.specs.Rows.{symbol_in}
use Rattle.name_cases.specs.Search.{counts, contradicts, least_of, counted_number, case_beside, case_numbered, case_at}
use Rattle.name_cases.specs.Beside.{same_spot, both_contradict, input_of, spot_beside, spot_case}
use Rattle.name_cases.specs.Firsts.{AreFirsts}
use Rattle.name_cases.proofs.Column.{name_at, some_is}
use Rattle.name_cases.proofs.Alone.{stands_alone}
use Rattle.name_cases.proofs.Search.{rest_at}

-- ---- a symbol beside the one of the column

both : (a b : Bool) → (a && b) ≡ true → (a ≡ true) × (b ≡ true)
both true true h = (refl, refl)
both true false h = (refl, h)
both false b h = absurd (false_true h)
  where
    false_true : false ≡ true → ⊥
    false_true h = cc

-- two symbols of one spot are one
one_spot : (f s : Spot) → same_spot f s ≡ true → f ≡ s
one_spot f s h =
    let parts = both (nat_eq f.row s.row) (nat_eq f.place s.place) h in
    let row : f.row ≡ s.row = grind (arith, nat_tests) in
    let place : f.place ≡ s.place = grind (arith, nat_tests) in
    (λ j. record { row = row j; place = place j })

counted_is : (b : Bool) (n : Option ℕ) (k : ℕ) → cond b n None ≡ Some k → n ≡ Some k
counted_is true n k h = h
counted_is false n k h = cc

module _ (q : Question) (names : List (List ℕ)) (rows : List (List InputSymbol)) (all : List InputSymbol) (column : List (Option Spot)) where
  pub spot_case_is : AreFirsts q names rows all column → (s : Spot) → spot_case q names rows column s ≡ option_and_then (case_at q names all) (symbol_in rows s)
  spot_case_is firsts s = by (symbol_in rows s) refl
    where
      -- the least one of the name stands at f
      beside : (e a : InputSymbol) (n : ℕ) (f : Spot) → symbol_in rows s ≡ Some e → symbol_in rows f ≡ Some a → spot_beside q rows s n f ≡ case_beside q e n a
      beside e a n f here there = by_spot (same_spot f s) refl
        where
          by_spot : (b : Bool) → same_spot f s ≡ b
              → cond b None (given (both_contradict q (symbol_in rows f) (symbol_in rows s)) (record { name = n; first = input_of (symbol_in rows f); other = input_of (symbol_in rows s) })) ≡ case_beside q e n a
          by_spot true same =
              let one : a ≡ e = some_is (sym there ∙ ap (symbol_in rows) (one_spot f s same) ∙ here) in
              sym (ap (λ b. given b (record { name = n; first = a.input; other = e.input })) (ap (λ x. contradicts q x e) one ∙ stands_alone q e))
          by_spot false other = rw (here, there) refl

      at_name : (e : InputSymbol) (n : ℕ) → symbol_in rows s ≡ Some e → (o : Option Spot) (l : Option InputSymbol) → option_map (symbol_in rows) o ≡ option_map (λ x. Some x) l
          → option_and_then (spot_beside q rows s n) o ≡ option_and_then (case_beside q e n) l
      at_name e n here None None same = refl
      at_name e n here None (Some a) same = cc
      at_name e n here (Some f) None same = cc
      at_name e n here (Some f) (Some a) same = beside e a n f here (some_is same)

      by_number : (e : InputSymbol) → symbol_in rows s ≡ Some e → (n : Option ℕ) → counted_number q names e ≡ n
          → option_and_then (λ k. option_and_then (spot_beside q rows s k) (get_or column k None)) n ≡ option_and_then (case_numbered q all e) n
      by_number e here None counted = refl
      by_number e here (Some k) counted =
          let numbered : number_of names (name_of e) ≡ Some k = counted_is (is_entry e) (number_of names (name_of e)) k (counted_is (counts q e) (entry_number names e) k counted) in
          at_name e k here (get_or column k None) (least_of q all (name_of e)) (firsts.at k (name_of e) (name_at names (name_of e) k numbered))

      by : (o : Option InputSymbol) → symbol_in rows s ≡ o
          → option_and_then (λ n. option_and_then (spot_beside q rows s n) (get_or column n None)) (option_and_then (counted_number q names) o) ≡ option_and_then (case_at q names all) o
      by None here = refl
      by (Some e) here = by_number e here (counted_number q names e) refl

  -- the case at a place is the least one of what is left of the row
  pub row_found : AreFirsts q names rows all column → (r p : ℕ) (c : PairCase) (whole : Option PairCase) → p < length (get_or rows r [])
      → Some c ≡ spot_case q names rows column (record { row = r; place = p }) → first_some (map (case_at q names all) (drop p (get_or rows r []))) ≡ whole → Some c ≡ whole
  row_found firsts r p c whole below found left =
      ap (λ o. option_or o (first_some (map (case_at q names all) (drop (p + 1) (get_or rows r []))))) (found ∙ spot_case_is firsts (record { row = r; place = p }))
      ∙ sym (rest_at (case_at q names all) (get_or rows r []) p below) ∙ left

  -- with none there it is that of what is left behind the place
  pub row_goes_on : AreFirsts q names rows all column → (r p : ℕ) (whole : Option PairCase) → p < length (get_or rows r [])
      → None ≡ spot_case q names rows column (record { row = r; place = p }) → first_some (map (case_at q names all) (drop p (get_or rows r []))) ≡ whole
      → first_some (map (case_at q names all) (drop (p + 1) (get_or rows r []))) ≡ whole
  row_goes_on firsts r p whole below none left =
      ap (λ o. option_or o (first_some (map (case_at q names all) (drop (p + 1) (get_or rows r []))))) (none ∙ spot_case_is firsts (record { row = r; place = p }))
      ∙ sym (rest_at (case_at q names all) (get_or rows r []) p below) ∙ left
