-- A symbol is a case of the question for mismatches where it has another type than the definition of its name.
use Rattle.std.proofs.Common.{◌≡◌, ℕ, zero, suc, ◌+◌, Bool, true, false, cond, ◌&&◌, List, [], ◌∷◌, ◌++◌, filter, slice_get, get_or, Option, Some, None, refl, ap, ◌∙◌, subst, add-one}
use Rattle.std.specs.List.{flat_map, AllByRecursion}
use Rattle.std.specs.Option.{option_and_then, is_some}
use Rattle.std.proofs.lemmas.List.Elements.{filter-append}
use Rattle.name_entries.specs.wl_base.Choice.{given}
use Rattle.name_entries.specs.object_file.declared.object.Object.{Object}
use Rattle.name_entries.specs.made_symbols.declared.mode.Mode.{Mode}
use Rattle.name_entries.specs.link_names.Numbered.{Numbered, AreNumbers}
use Rattle.name_entries.specs.name_rules.declared.case.PairCase.{PairCase}
use Rattle.name_entries.specs.name_rules.Entries.{InputSymbol, name_of, is_entry}
use Rattle.name_entries.specs.name_rules.Cases.{passes, first_entry, mismatches}
use Rattle.name_entries.specs.View.{entry_at}
use Rattle.name_cases.specs.declared.question.Question.TheVariants.{Mismatches}
use Rattle.name_cases.specs.Rows.{all_rows, entries_in, symbol_in}
use Rattle.name_cases.specs.Search.{case_at, case_numbered, case_beside}
use Rattle.name_cases.proofs.Found.{IsNumbered, no_entry}
use Rattle.name_cases.proofs.Held.{entries_held}

-- ---- one symbol

module _ (names : List (List ℕ)) (all : List InputSymbol) (e : InputSymbol) where
  judged : (n : ℕ) (a : InputSymbol) (b : Bool) → is_some {T = PairCase} (given b (record { name = n; first = a.input; other = e.input })) ≡ b
  judged n a true = refl
  judged n a false = refl

  beside : (n : ℕ) (o : Option InputSymbol) → is_some (option_and_then (case_beside Mismatches e n) o) ≡ passes (λ a. mismatches a e) o
  beside n None = refl
  beside n (Some a) = judged n a (mismatches a e)

  pub is_case : (is_entry e ≡ true → IsNumbered names e) → is_some (case_at Mismatches names all e) ≡ (is_entry e && passes (λ a. mismatches a e) (first_entry all (name_of e)))
  is_case held = by (is_entry e) refl
    where
      by : (b : Bool) → is_entry e ≡ b → is_some (case_at Mismatches names all e) ≡ (b && passes (λ a. mismatches a e) (first_entry all (name_of e)))
      by false is = ap is_some (no_entry Mismatches names all e is)
      by true is =
          let n = held is in
          ap (λ o. is_some (option_and_then (case_numbered Mismatches all e) o)) n.1 ∙ beside n.0 (first_entry all (name_of e))

-- ---- where it stands

module _ (names : List (List ℕ)) where
  both_held : (xs ys : List InputSymbol) → AllByRecursion (IsNumbered names) (xs ++ ys) → AllByRecursion (IsNumbered names) xs × AllByRecursion (IsNumbered names) ys
  both_held [] ys all = (tt, all)
  both_held (x ∷ xs) ys all = let r = both_held xs ys all.1 in ((all.0, r.0), r.1)

  in_row : (row : List InputSymbol) (k : ℕ) (e : InputSymbol) → slice_get row k ≡ Some e → is_entry e ≡ true → AllByRecursion (IsNumbered names) (filter is_entry row) → IsNumbered names e
  in_row [] k e at entry all = absurd cc
  in_row (x ∷ xs) zero e at entry all =
      let same : x ≡ e = cc in
      subst (IsNumbered names) same (subst (λ b. AllByRecursion (IsNumbered names) (cond b (x ∷ filter is_entry xs) (filter is_entry xs))) (ap is_entry same ∙ entry) all).0
  in_row (x ∷ xs) (suc k) e at entry all = by (is_entry x) all (in_row xs k e at entry)
    where
      by : (b : Bool) → AllByRecursion (IsNumbered names) (cond b (x ∷ filter is_entry xs) (filter is_entry xs))
          → (AllByRecursion (IsNumbered names) (filter is_entry xs) → IsNumbered names e) → IsNumbered names e
      by true all later = later all.1
      by false all later = later all

  in_rows : (rows : List (List InputSymbol)) (r k : ℕ) (e : InputSymbol) → slice_get (get_or rows r []) k ≡ Some e → is_entry e ≡ true → AllByRecursion (IsNumbered names) (entries_in rows) → IsNumbered names e
  in_rows [] r k e at entry all = absurd cc
  in_rows (row ∷ rows) zero k e at entry all =
      in_row row k e at entry (both_held (filter is_entry row) (entries_in rows) (subst (AllByRecursion (IsNumbered names)) (filter-append is_entry row (flat_map (λ row. row) rows)) all)).0
  in_rows (row ∷ rows) (suc r) k e at entry all =
      in_rows rows r k e at entry (both_held (filter is_entry row) (entries_in rows) (subst (AllByRecursion (IsNumbered names)) (filter-append is_entry row (flat_map (λ row. row) rows)) all)).1

pub stands_at : (mode : Mode) (objects : List Object) (object place : ℕ) → symbol_in (all_rows mode objects) (record { row = object + 1; place = place }) ≡ entry_at objects object place
stands_at mode objects object place = ap (λ r. slice_get (get_or (all_rows mode objects) r []) place) (add-one object)

pub numbered_at : (mode : Mode) (objects : List Object) (n : Numbered) → AreNumbers mode objects n → (object place : ℕ) (e : InputSymbol) → entry_at objects object place ≡ Some e → is_entry e ≡ true → IsNumbered n.names e
numbered_at mode objects n numbers object place e at entry =
    in_rows n.names (all_rows mode objects) (object + 1) place e (stands_at mode objects object place ∙ at) entry (entries_held mode objects n numbers)
