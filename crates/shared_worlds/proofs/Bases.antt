-- The bases: their numbers in the output, and what a session gives in them.
use Rattle.std.proofs.Common.{◌≡◌, ℕ, zero, suc, List, [], ◌∷◌, ◌++◌, map, Option, Some, None, Bool, true, false, refl, sym, ap, ◌∙◌, subst, inl, inr, arith}
use Rattle.std.specs.Prelude.{◌&&◌, slice_get, position, option_map, unwrap_or, bytes_eq, cond, codes}
use Rattle.std.proofs.lemmas.Option.{slice_get-map}
use Rattle.std.proofs.lemmas.Bool.{and_parts}
use Rattle.list_places.specs.Has.{Has}
use Rattle.list_places.proofs.Lists.{has_at, placed, stands, turned, apart_place, some_is}
use Rattle.wasm_types.specs.declared.value.ValType.TheVariants as types
use Rattle.wasm_types.specs.Same.{same_val}
use Rattle.run_rules.specs.declared.value.Value.{Value}
use Rattle.run_rules.specs.declared.value.Value.TheVariants.{I32, I64, F32, F64}
use Rattle.run_rules.specs.declared.session.GivenGlobal.{GivenGlobal}
use Rattle.run_rules.specs.declared.session.Session.{Session}
use Rattle.run_rules.specs.Numbers.{type_of}
use Rattle.run_rules.specs.Modules.{GlobalImport, is_for, found_in, first_value, first_values, offset_in, imported_globals}
use Rattle.made_symbols.specs.declared.mode.Mode.TheVariants.{Shared}
use Rattle.name_rules.specs.Entries.{InputSymbol, ImportKey, of_global, same_import}
use Rattle.link_rules.specs.Program.{Program, Part}
use Rattle.link_rules.specs.Marks.{live}
use Rattle.link_rules.specs.Keys.{GlobalKey, outside_global, linker_global, own_global, got, exported_datum, same_global, globals, defined_globals, global_imports_in, global_number}
use Rattle.link_rules.specs.Values.{Layout}
use Rattle.link_rules.specs.Output.{layout, imports}
use Rattle.link_worlds.proofs.Keys.{import_equal, imports_same, globals_same}
use Rattle.link_worlds.proofs.Start.{inner}
use Rattle.shared_types.specs.Linked.{SharedLinkedBy}
use Rattle.shared_worlds.specs.Placing.{number_given}
use Rattle.shared_worlds.specs.Names.{base_key}
use Rattle.shared_worlds.proofs.Modules.{cell_import, globals_are, imports_apart, inner_of}

-- an import among imports and what is defined
outer_at : (js : List ImportKey) (es : List GlobalKey) (n : ℕ) (k : ImportKey) → ((e : GlobalKey) → Has es e → inner e ≡ true) → slice_get (map outside_global js ++ es) n ≡ Some (outside_global k) → slice_get js n ≡ Some k
outer_at [] es n k f h = absurd (let e = f (outside_global k) (has_at es n (outside_global k) h) in grind arith)
outer_at (j ∷ js) es zero k f h = ap Some (same j k (some_is (outside_global j) (outside_global k) h))
  where
    same : (a b : ImportKey) → outside_global a ≡ outside_global b → a ≡ b
    same a b q = grind arith
outer_at (j ∷ js) es (suc n) k f h = outer_at js es n k f h

-- ---- what a session gives

abbrev IsNumber : Value → Type 0
IsNumber v = v ≡ I32 (unwrap_or (offset_in (Some v)) 0)

by_value : (v : Value) → same_val (type_of v) types.I32 ≡ true → IsNumber v
by_value (I32 n) h = refl
by_value (I64 n) h = absurd (grind arith)
by_value (F32 n) h = absurd (grind arith)
by_value (F64 n) h = absurd (grind arith)

found_is : (gs : List GivenGlobal) (from field : List ℕ) → IsNumber (unwrap_or (found_in gs from field types.I32) (I32 0))
found_is [] from field = refl
found_is (g ∷ gs) from field = onto (is_for from field types.I32 g) refl (found_is gs from field)
  where
    onto : (b : Bool) → is_for from field types.I32 g ≡ b → IsNumber (unwrap_or (found_in gs from field types.I32) (I32 0))
        → IsNumber (unwrap_or (cond b (Some g.value) (found_in gs from field types.I32)) (I32 0))
    onto true e rest = by_value g.value (and_parts (bytes_eq g.«module» from && bytes_eq g.field field) (same_val (type_of g.value) types.I32) e).1
    onto false e rest = rest

given_is : (s : Session) (name : List ℕ) → first_value s (codes "env") name types.I32 ≡ I32 (number_given s name)
given_is s name = found_is s.globals (codes "env") name

module _ (p : Program) (exports : List InputSymbol) (lk : SharedLinkedBy p exports) where
  abbrev parts : List Part
  parts = live p exports

  abbrev lay : Layout
  lay = layout Shared p (live p exports) exports

  abbrev js : List ImportKey
  js = global_imports_in Shared p (live p exports)

  import_at : (n : ℕ) (k : ImportKey) → slice_get lay.numbers.globals n ≡ Some (outside_global k) → slice_get js n ≡ Some k
  unfolding layout globals
  import_at n k h = outer_at js (defined_globals Shared parts exports) n k (inner_of p exports lk) h

  -- the number of an import is where it stands
  pub number_of : (n : ℕ) (k : ImportKey) → slice_get lay.numbers.globals n ≡ Some (outside_global k) → global_number lay.numbers (outside_global k) ≡ n
  number_of n k h =
      let key = outside_global k in
      let gs = lay.numbers.globals in
      let m = placed (same_global key) gs key (has_at gs n key h) (globals_same.itself key) in
      let s = stands (same_global key) gs m.0 m.1 in
      let q = item_is s.item s.passes in
      let e : n ≡ m.0 = apart_place same_import (turned same_import imports_same) js (imports_apart p exports lk) n m.0 k q.0 (import_at n k h) (import_at m.0 q.0 (s.there ∙ ap Some q.1)) q.2 in
      ap (λ o. unwrap_or o 0) m.1 ∙ sym e
    where
      item_is : (d : GlobalKey) → same_global (outside_global k) d ≡ true → (j : ImportKey) × (d ≡ outside_global j) × (same_import k j ≡ true)
      item_is (outside_global j) h = (j, refl, h)
      item_is (linker_global x) h = absurd (grind arith)
      item_is (own_global i x) h = absurd (grind arith)
      item_is (got g) h = absurd (grind arith)
      item_is (exported_datum e) h = absurd (grind arith)

  -- what a session gives in a base
  pub base_given : (s : Session) (n : ℕ) (name : List ℕ) → slice_get lay.numbers.globals n ≡ Some (base_key name)
      → slice_get (first_values s (imported_globals (imports Shared p parts exports lay))) n ≡ Some (I32 (number_given s name))
  base_given s n name h =
      let k : ImportKey = record { module_name = codes "env"; field = name; type = of_global (record { kind = types.I32; var = false }) } in
      let value : GlobalImport → Value = λ j. first_value s j.from j.field j.kind.kind in
      ap (λ xs. slice_get (first_values s xs) n) (globals_are p exports lk)
      ∙ slice_get-map value (map cell_import js) n
      ∙ ap (option_map value) (slice_get-map cell_import js n ∙ ap (option_map cell_import) (import_at n k h))
      ∙ ap Some (given_is s name)
