-- The case that is found is the least one of the definition.
use Rattle.std.proofs.Common.{◌≡◌, ℕ, Bool, true, false, cond, ◌&&◌, List, [], ◌∷◌, get_or, map, slice_get, Option, Some, None, refl, sym, ap, ◌∙◌}
use Rattle.std.specs.List.{find, flat_map, AllByRecursion}
use Rattle.std.specs.Option.{option_map, option_and_then}
use Rattle.std.proofs.lemmas.Option.{get_or_from_slice_get}
use Rattle.name_entries.specs.wl_base.Choice.{first_some, given}
use Rattle.name_entries.specs.wl_base.Names.{number_of}
use Rattle.name_entries.specs.name_rules.declared.case.PairCase.{PairCase}
use Rattle.name_entries.specs.name_rules.Entries.{InputSymbol, name_of, is_entry}
use Rattle.name_entries.specs.name_rules.Cases.{passes}
use Rattle.name_entries.specs.View.{entry_number}
use Rattle.name_cases.specs.declared.question.Question.{Question}
use Rattle.name_cases.specs.Rows.{entries_in}
use Rattle.name_cases.specs.Search.{counts, contradicts, least_of, case_beside, case_numbered, case_at, case_in}
use Rattle.name_cases.proofs.Search.{first-filter, first-joined}

-- an entry whose name is held
abbrev pub IsNumbered : List (List ℕ) → InputSymbol → Type 0
IsNumbered names e = (n : ℕ) × (entry_number names e ≡ Some n) × (slice_get names n ≡ Some (name_of e))

-- the case of a symbol that is no entry
pub no_entry : (q : Question) (names : List (List ℕ)) (all : List InputSymbol) (e : InputSymbol) → is_entry e ≡ false → case_at q names all e ≡ None
no_entry q names all e gone = ap (option_and_then (case_numbered q all e)) (neither (counts q e) (entry_number names e) (ap (λ b. cond b (number_of names (name_of e)) None) gone))
  where
    neither : (b : Bool) (n : Option ℕ) → n ≡ None → cond b n None ≡ None
    neither true n none = none
    neither false n none = refl

-- searched row by row
pub by_rows : (q : Question) (names : List (List ℕ)) (all : List InputSymbol) (rows : List (List InputSymbol)) → first_some (map (case_in q names all) rows) ≡ first_some (map (case_at q names all) (entries_in rows))
by_rows q names all rows =
    sym (first-joined (case_at q names all) rows) ∙ sym (first-filter (case_at q names all) is_entry (no_entry q names all) (flat_map (λ row. row) rows))

-- what a case tells, by a way to tell it
module _ {F : Type 0} (tell : List ℕ → ℕ → ℕ → F) (q : Question) (names : List (List ℕ)) (all : List InputSymbol) where
  abbrev pub told_as : PairCase → F
  told_as c = tell (get_or names c.name []) c.first c.other

  abbrev pub is_case : InputSymbol → Bool
  is_case e = counts q e && passes (λ a. contradicts q a e) (least_of q all (name_of e))

  abbrev pub tell_of : InputSymbol → Option F
  tell_of e = option_map (λ a. tell (name_of e) a.input e.input) (least_of q all (name_of e))

  pub found : (xs : List InputSymbol) → AllByRecursion (IsNumbered names) xs
      → option_map told_as (first_some (map (case_at q names all) xs)) ≡ option_and_then tell_of (find is_case xs)
  found [] numbered = refl
  found (e ∷ xs) numbered = by (found xs numbered.1) (counts q e) (least_of q all (name_of e)) refl refl
    where
      -- it is none
      passed : (option_map told_as (first_some (map (case_at q names all) xs)) ≡ option_and_then tell_of (find is_case xs)) → case_at q names all e ≡ None → is_case e ≡ false → option_map told_as (first_some (case_at q names all e ∷ map (case_at q names all) xs)) ≡ option_and_then tell_of (cond (is_case e) (Some e) (find is_case xs))
      passed rest none fails = ap (λ o. option_map told_as (first_some (o ∷ map (case_at q names all) xs))) none ∙ rest ∙ ap (λ b. option_and_then tell_of (cond b (Some e) (find is_case xs))) (sym fails)

      by_beside : (option_map told_as (first_some (map (case_at q names all) xs)) ≡ option_and_then tell_of (find is_case xs)) → (a : InputSymbol) → counts q e ≡ true → least_of q all (name_of e) ≡ Some a → (c : Bool) → contradicts q a e ≡ c
          → option_map told_as (first_some (case_at q names all e ∷ map (case_at q names all) xs)) ≡ option_and_then tell_of (cond (is_case e) (Some e) (find is_case xs))
      by_beside rest a counted least c contra =
          let at : case_at q names all e ≡ given c (record { name = numbered.0.0; first = a.input; other = e.input }) =
          ap (λ b. option_and_then (case_numbered q all e) (cond b (entry_number names e) None)) counted ∙ ap (option_and_then (case_numbered q all e)) numbered.0.1
          ∙ ap (option_and_then (case_beside q e numbered.0.0)) least ∙ ap (λ b. given b (record { name = numbered.0.0; first = a.input; other = e.input })) contra in
          let is : is_case e ≡ c = ap (λ b. b && passes (λ x. contradicts q x e) (least_of q all (name_of e))) counted ∙ ap (passes (λ x. contradicts q x e)) least ∙ contra in
          told_or c at is
        where
          told_or : (c : Bool) → case_at q names all e ≡ given c (record { name = numbered.0.0; first = a.input; other = e.input }) → is_case e ≡ c
              → option_map told_as (first_some (case_at q names all e ∷ map (case_at q names all) xs)) ≡ option_and_then tell_of (cond (is_case e) (Some e) (find is_case xs))
          told_or false at is = passed rest at is
          told_or true at is =
              ap (λ o. option_map told_as (first_some (o ∷ map (case_at q names all) xs))) at
              ∙ ap (λ name. Some (tell name a.input e.input)) (get_or_from_slice_get names numbered.0.0 (name_of e) [] numbered.0.2)
              ∙ ap (option_map (λ x. tell (name_of e) x.input e.input)) (sym least)
              ∙ ap (λ b. option_and_then tell_of (cond b (Some e) (find is_case xs))) (sym is)

      by : (option_map told_as (first_some (map (case_at q names all) xs)) ≡ option_and_then tell_of (find is_case xs)) → (b : Bool) (o : Option InputSymbol) → counts q e ≡ b → least_of q all (name_of e) ≡ o
          → option_map told_as (first_some (case_at q names all e ∷ map (case_at q names all) xs)) ≡ option_and_then tell_of (cond (is_case e) (Some e) (find is_case xs))
      by rest false o counted least =
          passed rest (ap (λ b. option_and_then (case_numbered q all e) (cond b (entry_number names e) None)) counted)
          (ap (λ b. b && passes (λ a. contradicts q a e) (least_of q all (name_of e))) counted)
      by rest true None counted least =
          passed rest (ap (λ b. option_and_then (case_numbered q all e) (cond b (entry_number names e) None)) counted ∙ ap (option_and_then (case_numbered q all e)) numbered.0.1
          ∙ ap (option_and_then (case_beside q e numbered.0.0)) least)
          (ap (λ b. b && passes (λ a. contradicts q a e) (least_of q all (name_of e))) counted ∙ ap (passes (λ a. contradicts q a e)) least)
      by rest true (Some a) counted least = by_beside rest a counted least (contradicts q a e) refl
