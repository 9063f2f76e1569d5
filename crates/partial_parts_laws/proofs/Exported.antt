-- The names under which functions are exported, where each has its own number and at most one name.
use Rattle.std.proofs.Common.{◌≡◌, ℕ, suc, ◌+◌, ◌<◌, ◌≤◌, ◌==◌, Bool, false, ◌&&◌, List, [], ◌∷◌, length, refl, sym, ap, ◌∙◌, subst, arith}
use Rattle.std.specs.Prelude.{Option, Some, None, option_map, filter_map, slice_get, unwrap_or, if◌then◌else◌}
use Rattle.std.specs.List.{AllZip, cons_option}
use Rattle.std.proofs.lemmas.Bool.{eq-eqb, ne_eqb}
use Rattle.list_places.specs.Has.{Apart}
use Rattle.list_places.proofs.Lists.{apart_filter}
use Rattle.name_rules.specs.object_file.wasm_module.declared.parts.Export.{Export}
use Rattle.name_rules.specs.object_file.object_columns.declared.functions.FunctionDef.{FunctionDef}
use Rattle.object_file.specs.Objects.{last_name, export_name, functions_from}
use Rattle.object_file.specs.object_rules.object_parts.declared.parts.CodeBody.{CodeBody}
use Rattle.name_rules.specs.object_file.linking_section.declared.symbol.SymbolKind.TheVariants.{Function}
use Rattle.link_rules.specs.Program.{Program, Part}
use Rattle.link_rules.specs.Marks.{is_object_part}
use Rattle.partial_rules.specs.Partial.{kept, open_of, function_number, exported_name, export_for, place_of}
use Rattle.partial_parts_laws.proofs.Once.{same_part, place_is}

-- ---- items that are numbered one behind another, each with a name or none

module _ {A : Type 0} (number : A → ℕ) (name_of : A → Option (List ℕ)) where
  -- their numbers from one on
  abbrev pub Numbered : ℕ → List A → Type 0
  Numbered from [] = Unit {0}
  Numbered from (x ∷ xs) = (number x ≡ from) × Numbered (from + 1) xs

  pub numbered_by : (from : ℕ) (xs : List A) → ((k : ℕ) (x : A) → slice_get xs k ≡ Some x → number x ≡ from + k) → Numbered from xs
  numbered_by from [] each = tt
  numbered_by from (x ∷ xs) each =
      (subst (λ n. number x ≡ n) (plus_none from) (each 0 x refl), numbered_by (from + 1) xs (λ k y is. subst (λ n. number y ≡ n) (moved from k) (each (suc k) y is)))
    where
      plus_none : (n : ℕ) → n + 0 ≡ n
      plus_none n = omega arith

      moved : (n k : ℕ) → n + suc k ≡ n + 1 + k
      moved n k = omega arith

  abbrev pub exported : A → Option Export
  exported x = option_map (λ name. record { name = name; kind = 0; index = number x }) (name_of x)

  -- an export of another function
  passed : (x : A) (es : List Export) (index : ℕ) (told : Option (List ℕ)) → ((number x == index) ≡ false) → last_name index (cons_option (exported x) es) told ≡ last_name index es told
  passed x es index told other = by_name (name_of x)
    where
      by_name : (n : Option (List ℕ)) → last_name index (cons_option (option_map (λ name. record { name = name; kind = 0; index = number x }) n) es) told ≡ last_name index es told
      by_name None = refl
      by_name (Some name) = ap (λ (b : Bool). last_name index es (if b then Some name else told)) other

  none_behind : (from index : ℕ) (xs : List A) (told : Option (List ℕ)) → Numbered from xs → index < from → last_name index (filter_map exported xs) told ≡ told
  none_behind from index [] told numbered low = refl
  none_behind from index (x ∷ xs) told numbered low =
      passed x (filter_map exported xs) index told (ne_eqb (number x) index (λ e. omega (arith, e, numbered.0, low)))
      ∙ none_behind (from + 1) index xs told numbered.1 (omega (arith, low))

  here : (from : ℕ) (x : A) (xs : List A) → Numbered from (x ∷ xs) → last_name from (filter_map exported (x ∷ xs)) None ≡ name_of x
  here from x xs numbered = by_name (name_of x)
    where
      by_name : (n : Option (List ℕ)) → last_name from (cons_option (option_map (λ name. record { name = name; kind = 0; index = number x }) n) (filter_map exported xs)) None ≡ n
      by_name None = none_behind (from + 1) from xs None numbered.1 (omega arith)
      by_name (Some name) =
          ap (λ (b : Bool). last_name from (filter_map exported xs) (if b then Some name else None)) (eq-eqb (number x) from numbered.0)
          ∙ none_behind (from + 1) from xs (Some name) numbered.1 (omega arith)

  -- The functions that are made of them have their names, where none before them is exported by such a number.
  pub names_from : (exports : List Export) (from : ℕ) (xs : List A) (types : List ℕ) (bodies : List CodeBody) → Numbered from xs → length types ≡ length xs → length bodies ≡ length xs
      → ((index : ℕ) → from ≤ index → export_name exports index ≡ last_name index (filter_map exported xs) None)
      → AllZip (λ (x : A) (f : FunctionDef). f.export_name ≡ name_of x) xs (functions_from exports from types bodies)
  names_from exports from [] [] bodies numbered ts bs those = tt
  names_from exports from [] (t ∷ types) bodies numbered ts bs those = absurd (omega (arith, ts))
  names_from exports from (x ∷ xs) [] bodies numbered ts bs those = absurd (omega (arith, ts))
  names_from exports from (x ∷ xs) (t ∷ types) [] numbered ts bs those = absurd (omega (arith, bs))
  names_from exports from (x ∷ xs) (t ∷ types) (b ∷ bodies) numbered ts bs those = (
    those from (omega arith) ∙ here from x xs numbered,
    names_from exports (from + 1) xs types bodies numbered.1 (omega (arith, ts)) (omega (arith, bs))
        (λ index low. those index (omega (arith, low)) ∙ passed x (filter_map exported xs) index None (ne_eqb (number x) index (λ e. omega (arith, e, numbered.0, low)))),
  )

-- ---- the kept functions of a program

module _ (p : Program) (apart : Apart same_part p.parts) where
  pub kept_apart : (k : ℕ) → Apart same_part (kept p k)
  kept_apart k = apart_filter same_part (λ (part : Part). is_object_part part && (part.chunk.kind == k)) p.parts apart

  pub placed_at : (k n : ℕ) (part : Part) → slice_get (kept p k) n ≡ Some part → place_of p k part.chunk ≡ n
  placed_at k n part is = ap (λ o. unwrap_or o 0) (place_is (kept p k) (kept_apart k) n part is)

  pub functions_numbered : Numbered (λ (part : Part). function_number p part.chunk) (λ (part : Part). exported_name p part.chunk) (length (open_of p Function)) (kept p 0)
  functions_numbered =
      numbered_by (λ (part : Part). function_number p part.chunk) (λ (part : Part). exported_name p part.chunk) (length (open_of p Function)) (kept p 0)
      (λ k part is. ap (λ n. length (open_of p Function) + n) (placed_at 0 k part is))

  -- So each function has the name of its part.
  pub export_names : (from : ℕ) (types : List ℕ) (bodies : List CodeBody) → from ≡ length (open_of p Function) → length types ≡ length (kept p 0) → length bodies ≡ length (kept p 0)
      → AllZip (λ (part : Part) (f : FunctionDef). f.export_name ≡ exported_name p part.chunk) (kept p 0) (functions_from (filter_map (λ part. export_for p part) (kept p 0)) from types bodies)
  export_names from types bodies is ts bs =
      names_from (λ (part : Part). function_number p part.chunk) (λ (part : Part). exported_name p part.chunk) (filter_map (λ part. export_for p part) (kept p 0)) from (kept p 0) types bodies
      (subst (λ n. Numbered (λ (part : Part). function_number p part.chunk) (λ (part : Part). exported_name p part.chunk) n (kept p 0)) (sym is) functions_numbered) ts bs
      (λ index low. refl)
