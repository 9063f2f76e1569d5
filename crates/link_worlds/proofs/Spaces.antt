-- The functions of the output's module, by their keys.
use Rattle.std.proofs.Common.{◌≡◌, ℕ, List, [], ◌∷◌, ◌++◌, map, Option, Some, None, Bool, true, false, refl, sym, ap, ◌∙◌, subst, inl, inr, ⊎_elim, arith}
use Rattle.std.specs.Prelude.{◌==◌, ◌&&◌, not, slice_get, filter, filter_map, cond}
use Rattle.std.specs.List.{cons_option}
use Rattle.std.proofs.lemmas.List.{append-nil, map-append}
use Rattle.std.proofs.lemmas.Bool.{and_parts}
use Rattle.list_places.specs.Has.{Has}
use Rattle.list_places.proofs.Lists.{has_left, has_right, has_either, has_pick, has_map, map_has, has_filter}
use Rattle.wl_base.specs.Choice.{given}
use Rattle.wasm_types.specs.declared.function.FuncType.{FuncType}
use Rattle.wasm_types.specs.declared.import.Import.{Import}
use Rattle.run_rules.specs.declared.world.Function.{Function as Runs}
use Rattle.run_rules.specs.declared.world.Source.TheVariants.{Host}
use Rattle.run_rules.specs.Ops.{op_of}
use Rattle.run_rules.specs.Modules.{imported_function, imported_functions, defined_functions, typed, coded}
use Rattle.linking_section.specs.declared.symbol.SymbolKind.TheVariants.{Datum}
use Rattle.made_symbols.specs.declared.mode.Mode.TheVariants.{Plain}
use Rattle.name_rules.specs.Entries.{InputSymbol, is_kind, ImportKey, SymbolType, of_function, of_global, untyped}
use Rattle.link_rules.specs.Program.{Program, Part}
use Rattle.link_rules.specs.Marks.{live, refs_of}
use Rattle.link_rules.specs.Keys.{FunctionKey, GlobalKey, outside, linker_function, stub, own, outside_global, linker_global, own_global, got, exported_datum, functions, defined_functions as keys_defined, function_imports_of, made_function_key, own_function_key, stub_names, type_of, type_place, types, window_types, globals, used_globals, made_global_key, own_global_key, got_entries, datum_key, is_function_type, is_global_type, has_import, used_imports, imports_by, imports_in_order, function_type_of}
use Rattle.link_rules.specs.Values.{Layout}
use Rattle.link_rules.specs.Output.{layout, is_import, function_import, global_import, import_for, memory_import, imports}
use Rattle.link_worlds.specs.Bodies.{linked_source}
use Rattle.link_worlds.specs.Worlds.{linked_bodies}
use Rattle.link_worlds.specs.Sound.{Sound}
use Rattle.link_worlds.proofs.Functions.{stood, type_found, mod_function}
use Rattle.link_worlds.proofs.Imports.{picked_imports}

module _ (p : Program) (exports : List InputSymbol) (sound : Sound p) where
  abbrev parts : List Part
  parts = live p exports

  abbrev lay : Layout
  lay = layout Plain p (live p exports) exports

  abbrev T : List FuncType
  T = lay.numbers.types

  abbrev pub outer : FunctionKey → Bool
  outer (outside k) = true
  outer (linker_function k) = false
  outer (stub name) = false
  outer (own input index) = false

  abbrev pub GlobalTyped : GlobalKey → Type 0
  GlobalTyped (outside_global k) = is_global_type k.type ≡ true
  GlobalTyped (linker_global k) = Unit {0}
  GlobalTyped (own_global i k) = Unit {0}
  GlobalTyped (got k) = Unit {0}
  GlobalTyped (exported_datum e) = Unit {0}

  -- what isn't imported is defined
  pub kept_defined : (ks : List ImportKey) (ds : List FunctionKey) → ((k : FunctionKey) → Has ds k → outer k ≡ false) → filter (λ f. not (is_import Plain p parts exports lay f)) (map outside ks ++ ds) ≡ ds
  kept_defined (k ∷ ks) ds g = kept_defined ks ds g
  kept_defined [] [] g = refl
  kept_defined [] (outside k ∷ ds) g = absurd (let e = g (outside k) (inl refl) in grind arith)
  kept_defined [] (linker_function k ∷ ds) g = ap (λ xs. linker_function k ∷ xs) (kept_defined [] ds (λ k h. g k (inr h)))
  kept_defined [] (stub k ∷ ds) g = ap (λ xs. stub k ∷ xs) (kept_defined [] ds (λ k h. g k (inr h)))
  kept_defined [] (own i k ∷ ds) g = ap (λ xs. own i k ∷ xs) (kept_defined [] ds (λ k h. g k (inr h)))

  pub outer_defined : (k : FunctionKey) → Has (keys_defined p parts) k → outer k ≡ false
  outer_defined k h =
      let mades = filter_map made_function_key parts in
      let stubs = map stub (stub_names p (refs_of parts)) in
      let owns = filter_map own_function_key parts in
      ⊎_elim
      (λ g. ⊎_elim
      (λ a. let r = has_pick made_function_key parts k a in given_inner ((r.0.chunk.input == 0) && (r.0.chunk.kind == 0)) (linker_function r.0.chunk.index) k r.2 refl)
      (λ a. let r = has_map stub (stub_names p (refs_of parts)) k a in ap outer (sym r.2))
      (has_either mades stubs k g))
      (λ a. let r = has_pick own_function_key parts k a in given_inner (not (r.0.chunk.input == 0) && (r.0.chunk.kind == 0)) (own r.0.chunk.input r.0.chunk.index) k r.2 refl)
      (has_either (mades ++ stubs) owns k h)
    where
      given_inner : (t : Bool) (x k : FunctionKey) → given t x ≡ Some k → outer x ≡ false → outer k ≡ false
      given_inner true x k h e = ap outer (sym (same_some x k h)) ∙ e
        where
          same_some : (x k : FunctionKey) → Some x ≡ Some k → x ≡ k
          same_some x k h = grind arith
      given_inner false x k h e = absurd (grind arith)

  pub global_typed : (k : GlobalKey) → Has (globals Plain p parts exports) k → GlobalTyped k
  unfolding globals
  global_typed k h =
      let outs = map outside_global (used_globals Plain p (refs_of parts)) in
      let mades = filter_map made_global_key parts in
      let owns = filter_map own_global_key parts in
      let gots = map got (got_entries Plain parts) in
      let dates = filter_map datum_key exports in
      let test = λ (k : ImportKey). is_global_type k.type && has_import (used_imports (filter (imports_by Plain) (refs_of parts))) k in
      ⊎_elim
      (λ a. let r = has_map outside_global (used_globals Plain p (refs_of parts)) k a in
      let f = has_filter test (imports_in_order p) r.0 r.1 in
      subst GlobalTyped r.2 (and_parts (is_global_type r.0.type) (has_import (used_imports (filter (imports_by Plain) (refs_of parts))) r.0) f.1).0)
      (λ g. ⊎_elim
      (λ g. ⊎_elim
      (λ g. ⊎_elim
      (λ a. let r = has_pick made_global_key parts k a in given_typed ((r.0.chunk.input == 0) && (r.0.chunk.kind == 2)) (linker_global r.0.chunk.index) k r.2 tt)
      (λ a. let r = has_pick own_global_key parts k a in given_typed (not (r.0.chunk.input == 0) && (r.0.chunk.kind == 2)) (own_global r.0.chunk.input r.0.chunk.index) k r.2 tt)
      (has_either mades owns k g))
      (λ a. let r = has_map got (got_entries Plain parts) k a in subst GlobalTyped r.2 tt)
      (has_either (mades ++ owns) gots k g))
      (λ a. let r = has_pick datum_key exports k a in given_typed (is_kind Datum r.0) (exported_datum r.0) k r.2 tt)
      (has_either (mades ++ owns ++ gots) dates k g))
      (has_either outs (mades ++ owns ++ gots ++ dates) k h)
    where
      given_typed : (t : Bool) (x k : GlobalKey) → given t x ≡ Some k → GlobalTyped x → GlobalTyped k
      given_typed true x k h q = subst GlobalTyped (grind arith) q
      given_typed false x k h q = absurd (grind arith)

  -- the type of each key is in the list
  pub key_typed : (k : FunctionKey) → Has (functions Plain p parts) k → slice_get T (type_place lay.numbers (type_of p parts k)) ≡ Some (type_of p parts k)
  unfolding layout types
  key_typed k h =
      type_found (map (type_of p parts) (functions Plain p parts) ++ window_types parts) (type_of p parts k)
      (has_left (map (type_of p parts) (functions Plain p parts)) (window_types parts) (type_of p parts k) (map_has (type_of p parts) (functions Plain p parts) k h))

  module _ (cell : ℕ → ℕ) (straight : (n : ℕ) → cell n ≡ n) where
    abbrev F : FunctionKey → Option Runs
    F = mod_function p exports sound cell straight

    -- definitions, in their order
    defined_are : (ds : List FunctionKey) → ((k : FunctionKey) → Has ds k → (outer k ≡ false) × (slice_get T (type_place lay.numbers (type_of p parts k)) ≡ Some (type_of p parts k)))
        → defined_functions (op_of T cell) T (map (λ k. type_place lay.numbers (type_of p parts k)) ds) (map (linked_source p lay parts) ds) ≡ map F ds
    defined_are [] f = refl
    defined_are (k ∷ ks) f = ap (λ x. x ∷ defined_functions (op_of T cell) T (map (λ k. type_place lay.numbers (type_of p parts k)) ks) (map (linked_source p lay parts) ks)) (one k (f k (inl refl)))
        ∙ ap (λ xs. F k ∷ xs) (defined_are ks (λ j h. f j (inr h)))
      where
        one : (k : FunctionKey) → (outer k ≡ false) × (slice_get T (type_place lay.numbers (type_of p parts k)) ≡ Some (type_of p parts k))
            → typed (coded (op_of T cell) (linked_source p lay parts k)) (slice_get T (type_place lay.numbers (type_of p parts k))) ≡ F k
        one (outside k) q = absurd (grind arith)
        one (linker_function n) q = ap (typed (coded (op_of T cell) (linked_source p lay parts (linker_function n)))) q.1
        one (stub n) q = ap (typed (coded (op_of T cell) (linked_source p lay parts (stub n)))) q.1
        one (own i x) q = ap (typed (coded (op_of T cell) (linked_source p lay parts (own i x)))) q.1

    -- imports of functions, in their order
    import_one : (place field : List ℕ) (t : SymbolType) → is_function_type t ≡ true → slice_get T (type_place lay.numbers (function_type_of t)) ≡ Some (function_type_of t)
        → imported_function T (import_for Plain p parts exports lay (record { module_name = place; field = field; type = t })) (import_for Plain p parts exports lay (record { module_name = place; field = field; type = t })).kind
        ≡ Some (F (outside (record { module_name = place; field = field; type = t })))
    import_one place field (of_function t) h e = ap (λ o. Some (typed (Host place field) o)) e
    import_one place field (of_global g) h e = absurd (grind arith)
    import_one place field untyped h e = absurd (grind arith)

    imports_are : (ks : List ImportKey) (ds : List FunctionKey) → ((k : ImportKey) → Has ks k → imported_function T (import_for Plain p parts exports lay k) (import_for Plain p parts exports lay k).kind ≡ Some (F (outside k)))
        → ((k : FunctionKey) → Has ds k → outer k ≡ false)
        → filter_map (λ (x : Import). imported_function T x x.kind) (filter_map (function_import Plain p parts exports lay) (map outside ks ++ ds)) ≡ map F (map outside ks)
    imports_are [] [] f g = refl
    imports_are [] (outside k ∷ ds) f g = absurd (let e = g (outside k) (inl refl) in grind arith)
    imports_are [] (linker_function k ∷ ds) f g = imports_are [] ds f (λ k h. g k (inr h))
    imports_are [] (stub k ∷ ds) f g = imports_are [] ds f (λ k h. g k (inr h))
    imports_are [] (own i k ∷ ds) f g = imports_are [] ds f (λ k h. g k (inr h))
    imports_are (k ∷ ks) ds f g =
        ap (λ o. cons_option o (filter_map (λ (x : Import). imported_function T x x.kind) (filter_map (function_import Plain p parts exports lay) (map outside ks ++ ds)))) (f k (inl refl))
        ∙ ap (λ xs. F (outside k) ∷ xs) (imports_are ks ds (λ j h. f j (inr h)) g)

    -- imports of globals are none of functions
    not_one : (place field : List ℕ) (t : SymbolType) → is_global_type t ≡ true
        → imported_function T (import_for Plain p parts exports lay (record { module_name = place; field = field; type = t })) (import_for Plain p parts exports lay (record { module_name = place; field = field; type = t })).kind ≡ None
    not_one place field (of_function t) h = absurd (grind arith)
    not_one place field (of_global g) h = refl
    not_one place field untyped h = absurd (grind arith)

    globals_none : (gs : List GlobalKey) → ((k : GlobalKey) → Has gs k → GlobalTyped k) → filter_map (λ (x : Import). imported_function T x x.kind) (filter_map (global_import Plain p parts exports lay) gs) ≡ []
    globals_none [] f = refl
    globals_none (outside_global k ∷ gs) f =
        ap (λ o. cons_option o (filter_map (λ (x : Import). imported_function T x x.kind) (filter_map (global_import Plain p parts exports lay) gs))) (not_one k.module_name k.field k.type (f (outside_global k) (inl refl)))
        ∙ globals_none gs (λ j h. f j (inr h))
    globals_none (linker_global k ∷ gs) f = globals_none gs (λ j h. f j (inr h))
    globals_none (own_global i k ∷ gs) f = globals_none gs (λ j h. f j (inr h))
    globals_none (got k ∷ gs) f = globals_none gs (λ j h. f j (inr h))
    globals_none (exported_datum e ∷ gs) f = globals_none gs (λ j h. f j (inr h))

    none_of_memory : (b : Bool) → filter_map (λ (x : Import). imported_function T x x.kind) (cond b (memory_import Plain p parts exports lay) []) ≡ []
    none_of_memory true = refl
    none_of_memory false = refl

    -- the functions of the output's module are those of the keys, in the keys' order
    pub functions_are : imported_functions T (imports Plain p parts exports lay)
        ++ defined_functions (op_of T cell) T (map (λ f. type_place lay.numbers (type_of p parts f)) (filter (λ f. not (is_import Plain p parts exports lay f)) lay.numbers.functions)) (linked_bodies p parts exports lay)
        ≡ map F (functions Plain p parts)
    unfolding layout functions
    functions_are =
        let ks = function_imports_of Plain p (refs_of parts) in
        let ds = keys_defined p parts in
        let gs = globals Plain p parts exports in
        let tp : FunctionKey → ℕ = λ k. type_place lay.numbers (type_of p parts k) in
        let defined_list : List FunctionKey = filter (λ f. not (is_import Plain p parts exports lay f)) (map outside ks ++ ds) in
        let A : List (Option Runs) = filter_map (λ (x : Import). imported_function T x x.kind) (filter_map (function_import Plain p parts exports lay) (map outside ks ++ ds)) in
        let imports_eq : imported_functions T (imports Plain p parts exports lay) ≡ map F (map outside ks) =
        picked_imports p parts exports lay (λ x. imported_function T x x.kind)
        ∙ ap (λ xs. xs ++ (A ++ filter_map (λ (x : Import). imported_function T x x.kind) (filter_map (global_import Plain p parts exports lay) gs))) (none_of_memory p.plan.import_memory)
        ∙ ap (λ xs. A ++ xs) (globals_none gs global_typed)
        ∙ append-nil A
        ∙ imports_are ks ds
        (λ k h. import_one k.module_name k.field k.type (stood parts p (outside k) (has_left (map outside ks) ds (outside k) (map_has outside ks k h))) (key_typed (outside k) (has_left (map outside ks) ds (outside k) (map_has outside ks k h))))
        outer_defined in
        let defined_eq : defined_functions (op_of T cell) T (map tp defined_list) (map (linked_source p lay parts) defined_list) ≡ map F ds =
        ap (λ xs. defined_functions (op_of T cell) T (map tp xs) (map (linked_source p lay parts) xs)) (kept_defined ks ds outer_defined)
        ∙ defined_are ds (λ k h. (outer_defined k h, key_typed k (has_right (map outside ks) ds k h))) in
        ap (λ xs. xs ++ defined_functions (op_of T cell) T (map tp defined_list) (map (linked_source p lay parts) defined_list)) imports_eq
        ∙ ap (λ xs. map F (map outside ks) ++ xs) defined_eq
        ∙ sym (map-append F (map outside ks) ds)
