-- The output's module by keys: what it imports, its functions, and that each imported global is its own cell.
use Rattle.std.proofs.Common.{◌≡◌, ℕ, List, [], ◌∷◌, ◌++◌, map, Option, Some, None, Bool, true, false, refl, sym, ap, ◌∙◌, subst, inl, inr, arith}
use Rattle.std.specs.Prelude.{◌&&◌, slice_get, filter, filter_map, bytes_eq}
use Rattle.std.specs.List.{cons_option}
use Rattle.std.proofs.lemmas.Bool.{and_parts, and_from}
use Rattle.std.proofs.lemmas.List.{append-nil, map-append}
use Rattle.std.proofs.lemmas.List.Elements.{filter_map-append}
use Rattle.list_places.specs.Has.{Has, Apart}
use Rattle.list_places.proofs.Lists.{has_left, has_right, map_has, has_map, turned, apart_distinct}
use Rattle.wasm_types.specs.declared.function.FuncType.{FuncType}
use Rattle.wasm_types.specs.declared.import.Import.{Import}
use Rattle.wasm_types.specs.Same.{same_global_type}
use Rattle.run_rules.specs.declared.world.Function.{Function as Runs}
use Rattle.run_rules.specs.declared.world.Source.TheVariants.{Host}
use Rattle.run_rules.specs.Ops.{op_of}
use Rattle.run_rules.specs.Modules.{GlobalImport, same_cell, imported_function, imported_global, imported_table, imported_memory, imported_functions, imported_globals, imported_tables, imported_memories, cell_of as cell_in, defined_functions, typed, coded}
use Rattle.made_symbols.specs.declared.mode.Mode.TheVariants.{Shared}
use Rattle.name_rules.specs.Entries.{InputSymbol, ImportKey, SymbolType, of_function, of_global, untyped, same_import, same_symbol_type}
use Rattle.name_rules.specs.Further.{made_global_import}
use Rattle.link_rules.specs.Program.{Program, Part}
use Rattle.link_rules.specs.Marks.{live, refs_of}
use Rattle.link_rules.specs.Keys.{FunctionKey, GlobalKey, outside, linker_function, stub, own, outside_global, linker_global, own_global, got, exported_datum, functions, defined_functions as keys_defined, function_imports_of, types, type_of, type_place, window_types, globals, defined_globals, global_imports_in, foreign_cells, used_globals, is_function_type, is_global_type}
use Rattle.link_rules.specs.Values.{Layout}
use Rattle.link_rules.specs.Output.{layout, is_import, function_import, global_import, import_for, imports, memory, defined}
use Rattle.link_worlds.proofs.Keys.{imports_same}
use Rattle.link_worlds.proofs.Functions.{type_found}
use Rattle.link_worlds.proofs.Imports.{straight}
use Rattle.link_worlds.proofs.Start.{inner as inside}
use Rattle.output_types.specs.Types.{symbol_cell}
use Rattle.shared_module.specs.Outputs.{shared_source, shared_bodies}
use Rattle.shared_module.proofs.Keys.{inner, defined_is}
use Rattle.shared_types.specs.Linked.{SharedLinkedBy}
use Rattle.shared_types.specs.Spaces.{shared_table}
use Rattle.shared_types.proofs.Spaces.{function_typed, global_typed, no_global}
use Rattle.shared_worlds.proofs.Lists.{none_of, each_is, map_map}
use Rattle.shared_worlds.proofs.Functions.{mod_function}

-- an imported global, as a cell
abbrev pub cell_import : ImportKey → GlobalImport
cell_import k = record { from = k.module_name; field = k.field; kind = symbol_cell k.type }

module _ (p : Program) (exports : List InputSymbol) (lk : SharedLinkedBy p exports) where
  abbrev parts : List Part
  parts = live p exports

  abbrev lay : Layout
  lay = layout Shared p (live p exports) exports

  abbrev T : List FuncType
  T = lay.numbers.types

  abbrev ks : List ImportKey
  ks = function_imports_of Shared p (refs_of (live p exports))

  abbrev ds : List FunctionKey
  ds = keys_defined p (live p exports)

  abbrev js : List ImportKey
  js = global_imports_in Shared p (live p exports)

  abbrev es : List GlobalKey
  es = defined_globals Shared (live p exports) exports

  no_function : (k : FunctionKey) → Has ds k → function_import Shared p parts exports lay k ≡ None
  no_function k h = by_key k (inner p parts exports k h)
    where
      by_key : (k : FunctionKey) → is_import Shared p parts exports lay k ≡ false → function_import Shared p parts exports lay k ≡ None
      by_key (outside k) q = absurd (grind arith)
      by_key (linker_function k) q = refl
      by_key (stub k) q = refl
      by_key (own i k) q = refl

  -- what isn't imported is defined
  pub inner_of : (k : GlobalKey) → Has es k → inside k ≡ true
  inner_of k h = by_key k (no_global p exports lk k h)
    where
      by_key : (k : GlobalKey) → global_import Shared p parts exports lay k ≡ None → inside k ≡ true
      by_key (outside_global k) q = absurd (grind arith)
      by_key (linker_global n) q = refl
      by_key (own_global i x) q = refl
      by_key (got g) q = refl
      by_key (exported_datum e) q = refl

  -- ---- what is imported behind the memory and the table

  module _ {B : Type 0} (f : Import → Option B) where
    abbrev of_key : ImportKey → Option B
    of_key k = f (import_for Shared p parts exports lay k)

    from_functions : (ks : List ImportKey) (ds : List FunctionKey) → ((k : FunctionKey) → Has ds k → function_import Shared p parts exports lay k ≡ None)
        → filter_map f (filter_map (function_import Shared p parts exports lay) (map outside ks ++ ds)) ≡ filter_map of_key ks
    from_functions [] [] g = refl
    from_functions [] (d ∷ ds) g =
        ap (λ o. filter_map f (cons_option o (filter_map (function_import Shared p parts exports lay) ds))) (g d (inl refl))
        ∙ from_functions [] ds (λ k h. g k (inr h))
    from_functions (k ∷ ks) ds g = ap (λ xs. cons_option (of_key k) xs) (from_functions ks ds g)

    from_globals : (ks : List ImportKey) (ds : List GlobalKey) → ((k : GlobalKey) → Has ds k → global_import Shared p parts exports lay k ≡ None)
        → filter_map f (filter_map (global_import Shared p parts exports lay) (map outside_global ks ++ ds)) ≡ filter_map of_key ks
    from_globals [] [] g = refl
    from_globals [] (d ∷ ds) g =
        ap (λ o. filter_map f (cons_option o (filter_map (global_import Shared p parts exports lay) ds))) (g d (inl refl))
        ∙ from_globals [] ds (λ k h. g k (inr h))
    from_globals (k ∷ ks) ds g = ap (λ xs. cons_option (of_key k) xs) (from_globals ks ds g)

    picked : (fs gs : List B) → filter_map of_key ks ≡ fs → filter_map of_key js ≡ gs
        → filter_map f (filter_map (function_import Shared p parts exports lay) lay.numbers.functions ++ filter_map (global_import Shared p parts exports lay) lay.numbers.globals) ≡ fs ++ gs
    unfolding layout functions globals
    picked fs gs a b =
        let outs = filter_map (global_import Shared p parts exports lay) (map outside_global js ++ es) in
        filter_map-append f (filter_map (function_import Shared p parts exports lay) (map outside ks ++ ds)) outs
        ∙ ap (λ xs. xs ++ filter_map f outs) (from_functions ks ds no_function ∙ a)
        ∙ ap (λ xs. fs ++ xs) (from_globals js es (no_global p exports lk) ∙ b)

  -- ---- tables and memories

  pub tables_are : imported_tables (imports Shared p parts exports lay) ≡ shared_table p exports ∷ []
  tables_are =
      ap (λ xs. shared_table p exports ∷ xs)
      (picked (λ (x : Import). imported_table x.kind) [] [] (none_of _ ks (λ k h. none k.type k.module_name k.field)) (none_of _ js (λ k h. none k.type k.module_name k.field)))
    where
      none : (t : SymbolType) (place field : List ℕ) → imported_table (import_for Shared p parts exports lay (record { module_name = place; field = field; type = t })).kind ≡ None
      none (of_function t) place field = refl
      none (of_global g) place field = refl
      none untyped place field = refl

  pub memories_are : imported_memories (imports Shared p parts exports lay) ≡ memory Shared p parts exports lay ∷ []
  memories_are =
      ap (λ xs. memory Shared p parts exports lay ∷ xs)
      (picked (λ (x : Import). imported_memory x.kind) [] [] (none_of _ ks (λ k h. none k.type k.module_name k.field)) (none_of _ js (λ k h. none k.type k.module_name k.field)))
    where
      none : (t : SymbolType) (place field : List ℕ) → imported_memory (import_for Shared p parts exports lay (record { module_name = place; field = field; type = t })).kind ≡ None
      none (of_function t) place field = refl
      none (of_global g) place field = refl
      none untyped place field = refl

  -- ---- imported globals

  pub globals_are : imported_globals (imports Shared p parts exports lay) ≡ map cell_import js
  globals_are =
      picked (λ (x : Import). imported_global x x.kind) [] (map cell_import js)
      (none_of _ ks (λ k h. none k.type k.module_name k.field (function_typed p exports lk k h)))
      (each_is _ cell_import js (λ k h. one k.type k.module_name k.field (global_typed p exports lk k h)))
    where
      none : (t : SymbolType) (place field : List ℕ) → is_function_type t ≡ true
          → imported_global (import_for Shared p parts exports lay (record { module_name = place; field = field; type = t })) (import_for Shared p parts exports lay (record { module_name = place; field = field; type = t })).kind ≡ None
      none (of_function t) place field h = refl
      none (of_global g) place field h = absurd (grind arith)
      none untyped place field h = absurd (grind arith)

      one : (t : SymbolType) (place field : List ℕ) → is_global_type t ≡ true
          → imported_global (import_for Shared p parts exports lay (record { module_name = place; field = field; type = t })) (import_for Shared p parts exports lay (record { module_name = place; field = field; type = t })).kind
          ≡ Some (cell_import (record { module_name = place; field = field; type = t }))
      one (of_function t) place field h = absurd (grind arith)
      one (of_global g) place field h = refl
      one untyped place field h = absurd (grind arith)

  same_types : (t u : SymbolType) → is_global_type t ≡ true → is_global_type u ≡ true → same_global_type (symbol_cell t) (symbol_cell u) ≡ true → same_symbol_type t u ≡ true
  same_types (of_global a) (of_global b) h k e = e
  same_types (of_function a) u h k e = absurd (grind arith)
  same_types untyped u h k e = absurd (grind arith)
  same_types t (of_function a) h k e = absurd (grind arith)
  same_types t untyped h k e = absurd (grind arith)

  keys_apart : (js : List ImportKey) → Apart same_import js → ((k : ImportKey) → Has js k → is_global_type k.type ≡ true) → Apart same_cell (map cell_import js)
  keys_apart [] a t = tt
  keys_apart (j ∷ js) a t = (
    (λ y h e.
        let r = has_map cell_import js y h in
        let e' : same_cell (cell_import j) (cell_import r.0) ≡ true = ap (same_cell (cell_import j)) r.2 ∙ e in
        let q = and_parts (bytes_eq j.module_name r.0.module_name && bytes_eq j.field r.0.field) (same_global_type (symbol_cell j.type) (symbol_cell r.0.type)) e' in
        a.0 r.0 r.1 (and_from (bytes_eq j.module_name r.0.module_name && bytes_eq j.field r.0.field) (same_symbol_type j.type r.0.type) q.0 (same_types j.type r.0.type (t j (inl refl)) (t r.0 (inr r.1)) q.1))),
    keys_apart js a.1 (λ k h. t k (inr h)),
  )

  pub imports_apart : Apart same_import js
  imports_apart = apart_distinct same_import (turned same_import imports_same) [] (filter_map made_global_import p.entries ++ foreign_cells parts ++ used_globals Shared p (refs_of parts)) tt

  -- each imported global is its own cell
  pub own_cells : (n : ℕ) → cell_in (imported_globals (imports Shared p parts exports lay)) n ≡ n
  own_cells n =
      straight (imported_globals (imports Shared p parts exports lay))
      (subst (λ xs. Apart same_cell xs) (sym globals_are) (keys_apart js imports_apart (global_typed p exports lk))) n

  -- ---- functions

  -- the type of each key is in the list
  key_typed : (k : FunctionKey) → Has (functions Shared p parts) k → slice_get T (type_place lay.numbers (type_of p parts k)) ≡ Some (type_of p parts k)
  unfolding layout types
  key_typed k h =
      type_found (map (type_of p parts) (functions Shared p parts) ++ window_types parts) (type_of p parts k)
      (has_left (map (type_of p parts) (functions Shared p parts)) (window_types parts) (type_of p parts k) (map_has (type_of p parts) (functions Shared p parts) k h))

  module _ (cell : ℕ → ℕ) (straight' : (n : ℕ) → cell n ≡ n) where
    abbrev F : FunctionKey → Option Runs
    F = mod_function p exports lk cell straight'

    -- definitions, in their order
    defined_are : (ds : List FunctionKey) → ((k : FunctionKey) → Has ds k → (is_import Shared p parts exports lay k ≡ false) × (slice_get T (type_place lay.numbers (type_of p parts k)) ≡ Some (type_of p parts k)))
        → defined_functions (op_of T cell) T (map (λ k. type_place lay.numbers (type_of p parts k)) ds) (map (shared_source p lay parts) ds) ≡ map F ds
    defined_are [] f = refl
    defined_are (k ∷ ks) f = ap (λ x. x ∷ defined_functions (op_of T cell) T (map (λ k. type_place lay.numbers (type_of p parts k)) ks) (map (shared_source p lay parts) ks)) (one k (f k (inl refl)))
        ∙ ap (λ xs. F k ∷ xs) (defined_are ks (λ j h. f j (inr h)))
      where
        one : (k : FunctionKey) → (is_import Shared p parts exports lay k ≡ false) × (slice_get T (type_place lay.numbers (type_of p parts k)) ≡ Some (type_of p parts k))
            → typed (coded (op_of T cell) (shared_source p lay parts k)) (slice_get T (type_place lay.numbers (type_of p parts k))) ≡ F k
        one (outside k) q = absurd (let e = q.0 in grind arith)
        one (linker_function n) q = ap (typed (coded (op_of T cell) (shared_source p lay parts (linker_function n)))) q.1
        one (stub name) q = ap (typed (coded (op_of T cell) (shared_source p lay parts (stub name)))) q.1
        one (own i x) q = ap (typed (coded (op_of T cell) (shared_source p lay parts (own i x)))) q.1

    -- an imported function
    import_is : (t : SymbolType) (place field : List ℕ) → is_function_type t ≡ true → slice_get T (type_place lay.numbers (type_of p parts (outside (record { module_name = place; field = field; type = t })))) ≡ Some (type_of p parts (outside (record { module_name = place; field = field; type = t })))
        → imported_function T (import_for Shared p parts exports lay (record { module_name = place; field = field; type = t })) (import_for Shared p parts exports lay (record { module_name = place; field = field; type = t })).kind ≡ Some (F (outside (record { module_name = place; field = field; type = t })))
    import_is (of_function t) place field h e = ap (λ o. Some (typed (Host place field) o)) e
    import_is (of_global g) place field h e = absurd (grind arith)
    import_is untyped place field h e = absurd (grind arith)

    no_import : (t : SymbolType) (place field : List ℕ) → is_global_type t ≡ true
        → imported_function T (import_for Shared p parts exports lay (record { module_name = place; field = field; type = t })) (import_for Shared p parts exports lay (record { module_name = place; field = field; type = t })).kind ≡ None
    no_import (of_function t) place field h = absurd (grind arith)
    no_import (of_global g) place field h = refl
    no_import untyped place field h = absurd (grind arith)

    outer_typed : (k : ImportKey) → Has ks k → slice_get T (type_place lay.numbers (type_of p parts (outside k))) ≡ Some (type_of p parts (outside k))
    unfolding functions
    outer_typed k h = key_typed (outside k) (has_left (map outside ks) ds (outside k) (map_has outside ks k h))

    inner_typed : (k : FunctionKey) → Has ds k → slice_get T (type_place lay.numbers (type_of p parts k)) ≡ Some (type_of p parts k)
    unfolding functions
    inner_typed k h = key_typed k (has_right (map outside ks) ds k h)

    imports_are : imported_functions T (imports Shared p parts exports lay) ≡ map (λ (k : ImportKey). F (outside k)) ks
    imports_are =
        picked (λ (x : Import). imported_function T x x.kind) (map (λ (k : ImportKey). F (outside k)) ks) []
        (each_is _ (λ k. F (outside k)) ks (λ k h. import_is k.type k.module_name k.field (function_typed p exports lk k h) (outer_typed k h)))
        (none_of _ js (λ k h. no_import k.type k.module_name k.field (global_typed p exports lk k h)))
        ∙ append-nil (map (λ (k : ImportKey). F (outside k)) ks)

    -- the functions of the output's module are those of the keys, in the keys' order
    pub functions_are : imported_functions T (imports Shared p parts exports lay)
        ++ defined_functions (op_of T cell) T (map (λ f. type_place lay.numbers (type_of p parts f)) (defined Shared p parts exports lay)) (shared_bodies p parts exports lay)
        ≡ map F (functions Shared p parts)
    unfolding functions
    functions_are =
        let tp : FunctionKey → ℕ = λ k. type_place lay.numbers (type_of p parts k) in
        let code = λ (xs : List FunctionKey). defined_functions (op_of T cell) T (map tp xs) (map (shared_source p lay parts) xs) in
        ap (λ xs. xs ++ code (defined Shared p parts exports lay)) (imports_are ∙ sym (map_map F outside ks))
        ∙ ap (λ xs. map F (map outside ks) ++ code xs) (defined_is p parts exports)
        ∙ ap (λ xs. map F (map outside ks) ++ xs) (defined_are ds (λ k h. (inner p parts exports k h, inner_typed k h)))
        ∙ sym (map-append F (map outside ks) ds)
