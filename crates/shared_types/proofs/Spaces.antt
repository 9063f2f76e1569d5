-- The index spaces of a shared output's module, by kinds of what is imported and defined.
use Rattle.std.proofs.Common.{◌≡◌, ℕ, List, [], ◌∷◌, ◌++◌, map, Option, Some, None, true, false, refl, sym, ap, ◌∙◌, subst, inl, inr, ⊎_elim, arith}
use Rattle.std.specs.Prelude.{◌==◌, ◌&&◌, not, filter, filter_map, find, option_map, codes}
use Rattle.std.specs.List.{cons_option}
use Rattle.std.proofs.lemmas.List.{append-nil, map-append}
use Rattle.std.proofs.lemmas.List.Elements.{filter_map-append}
use Rattle.std.proofs.lemmas.Bool.{and_parts, eqb-true}
use Rattle.list_places.specs.Has.{Has}
use Rattle.list_places.proofs.Lists.{has_right, has_either, has_map, has_pick, has_filter, given_some, some_is, distinct_only}
use Rattle.wasm_types.specs.declared.import.Import.{Import}
use Rattle.wasm_types.specs.declared.import.ImportKind.{ImportKind}
use Rattle.wasm_module.specs.declared.parts.ModuleGlobal.{ModuleGlobal}
use Rattle.linking_section.specs.declared.symbol.SymbolKind.TheVariants.{Datum, GlobalVar}
use Rattle.made_symbols.specs.declared.mode.Mode.TheVariants.{Shared}
use Rattle.name_rules.specs.Entries.{InputSymbol, ImportKey, SymbolType, of_function, of_global, untyped, is_kind, name_of, same_import}
use Rattle.name_rules.specs.Meanings.{cell_of}
use Rattle.name_rules.specs.Further.{made_global_import}
use Rattle.link_rules.specs.Program.{Program, Part, Content, function, segment, global, linker_made}
use Rattle.link_rules.specs.Marks.{live, refs_of, is_foreign}
use Rattle.link_rules.specs.Keys.{FunctionKey, GlobalKey, outside, linker_function, stub, own, outside_global, own_global, got, exported_datum, functions, defined_functions, function_imports_of, globals, defined_globals, global_imports_in, used_globals, foreign_cell, foreign_cells, parts_of_kind, own_global_key, got_entries, datum_key, type_of, type_place, is_function_type, is_global_type, has_import, used_imports, imports_by, all_imports}
use Rattle.link_rules.specs.Values.{Layout}
use Rattle.link_rules.specs.Output.{layout, image, is_import, function_import, global_import, import_for, memory, imports, global_for, global_content, content_global}
use Rattle.link_worlds.specs.Sound.{IsGlobalPart}
use Rattle.shared_module.specs.Outputs.{shared_by}
use Rattle.shared_module.proofs.Keys.{inner, defined_is, by_global, own_found}
use Rattle.wasm_valid.specs.Spaces.{a_function, a_table, a_memory, a_global, imported}
use Rattle.output_types.specs.Types.{symbol_cell, content_cell, part_cell, is_global_at}
use Rattle.shared_types.specs.Types.{shared_cell}
use Rattle.shared_types.specs.Linked.{SharedLinkedBy}
use Rattle.shared_types.specs.Spaces.{shared_table, HasSpaces}
use Rattle.shared_types.proofs.Lists.{none_of, each_is, map_map}

module _ (p : Program) (exports : List InputSymbol) (lk : SharedLinkedBy p exports) where
  abbrev parts : List Part
  parts = live p exports

  abbrev lay : Layout
  lay = layout Shared p (live p exports) exports

  abbrev ks : List ImportKey
  ks = function_imports_of Shared p (refs_of parts)

  abbrev ds : List FunctionKey
  ds = defined_functions p parts

  abbrev js : List ImportKey
  js = global_imports_in Shared p parts

  abbrev es : List GlobalKey
  es = defined_globals Shared parts exports

  -- ---- what kinds of keys there are

  pub function_typed : (k : ImportKey) → Has ks k → is_function_type k.type ≡ true
  function_typed k h =
      let used = has_import (used_imports (filter (imports_by Shared) (refs_of parts))) in
      (and_parts (is_function_type k.type) (used k) (has_filter (λ (k : ImportKey). is_function_type k.type && used k) (all_imports Shared p) k h).1).0

  pub global_typed : (k : ImportKey) → Has js k → is_global_type k.type ≡ true
  global_typed k h =
      let mades = filter_map made_global_import p.entries in
      let cells = foreign_cells parts in
      let used = used_globals Shared p (refs_of parts) in
      let has = has_import (used_imports (filter (imports_by Shared) (refs_of parts))) in
      ⊎_elim (λ a. absurd a) (λ a.
      ⊎_elim
      (λ b. ⊎_elim
      (λ c. let r = has_pick made_global_import p.entries k c in
      let g = given_some ((r.0.input == 0) && is_kind GlobalVar r.0) (record { module_name = codes "env"; field = name_of r.0; type = r.0.type }) k r.2 in
      let t = and_parts (r.0.input == 0) (is_kind GlobalVar r.0) g.0 in
      subst (λ (k : ImportKey). is_global_type k.type ≡ true) g.1 (lk.entries.globals r.0 r.1 (eqb-true r.0.input 0 t.0) t.1))
      (λ c. let r = has_pick foreign_cell (refs_of (parts_of_kind 0 parts) ++ refs_of (parts_of_kind 1 parts)) k c in
      let g = given_some (not (r.0.kind == 0) && not (is_kind GlobalVar r.0.entry) && is_foreign r.0) (cell_of r.0.entry) k r.2 in
      subst (λ (k : ImportKey). is_global_type k.type ≡ true) g.1 refl)
      (has_either mades cells k b))
      (λ b. (and_parts (is_global_type k.type) (has k) (has_filter (λ (k : ImportKey). is_global_type k.type && has k) (all_imports Shared p) k b).1).0)
      (has_either (mades ++ cells) used k a))
      (distinct_only same_import [] (mades ++ cells ++ used) k h)

  no_function : (k : FunctionKey) → Has ds k → function_import Shared p parts exports lay k ≡ None
  no_function k h = by_key k (inner p parts exports k h)
    where
      by_key : (k : FunctionKey) → is_import Shared p parts exports lay k ≡ false → function_import Shared p parts exports lay k ≡ None
      by_key (outside k) q = absurd (grind arith)
      by_key (linker_function k) q = refl
      by_key (stub k) q = refl
      by_key (own i k) q = refl

  pub no_global : (k : GlobalKey) → Has es k → global_import Shared p parts exports lay k ≡ None
  no_global k h =
      let owns = filter_map own_global_key parts in
      let gots = map got (got_entries Shared parts) in
      let dates = filter_map datum_key exports in
      let none = λ (k : GlobalKey). global_import Shared p parts exports lay k ≡ None in
      ⊎_elim
      (λ g. ⊎_elim
      (λ a. let r = has_pick own_global_key parts k a in subst none (given_some (not (r.0.chunk.input == 0) && (r.0.chunk.kind == 2)) (own_global r.0.chunk.input r.0.chunk.index) k r.2).1 refl)
      (λ a. let r = has_map got (got_entries Shared parts) k a in subst none r.2 refl)
      (has_either owns gots k g))
      (λ a. let r = has_pick datum_key exports k a in subst none (given_some (is_kind Datum r.0) (exported_datum r.0) k r.2).1 refl)
      (has_either (owns ++ gots) dates k h)

  -- ---- what is imported behind the memory and the table, by kind

  module _ {B : Type 0} (f : ImportKind → Option B) where
    abbrev of_key : ImportKey → Option B
    of_key k = f (import_for Shared p parts exports lay k).kind

    from_functions : (ks : List ImportKey) (ds : List FunctionKey) → ((k : FunctionKey) → Has ds k → function_import Shared p parts exports lay k ≡ None)
        → filter_map (λ (i : Import). f i.kind) (filter_map (function_import Shared p parts exports lay) (map outside ks ++ ds)) ≡ filter_map of_key ks
    from_functions [] [] g = refl
    from_functions [] (d ∷ ds) g =
        ap (λ o. filter_map (λ (i : Import). f i.kind) (cons_option o (filter_map (function_import Shared p parts exports lay) ds))) (g d (inl refl))
        ∙ from_functions [] ds (λ k h. g k (inr h))
    from_functions (k ∷ ks) ds g = ap (λ xs. cons_option (of_key k) xs) (from_functions ks ds g)

    from_globals : (ks : List ImportKey) (ds : List GlobalKey) → ((k : GlobalKey) → Has ds k → global_import Shared p parts exports lay k ≡ None)
        → filter_map (λ (i : Import). f i.kind) (filter_map (global_import Shared p parts exports lay) (map outside_global ks ++ ds)) ≡ filter_map of_key ks
    from_globals [] [] g = refl
    from_globals [] (d ∷ ds) g =
        ap (λ o. filter_map (λ (i : Import). f i.kind) (cons_option o (filter_map (global_import Shared p parts exports lay) ds))) (g d (inl refl))
        ∙ from_globals [] ds (λ k h. g k (inr h))
    from_globals (k ∷ ks) ds g = ap (λ xs. cons_option (of_key k) xs) (from_globals ks ds g)

    picked : (fs gs : List B) → filter_map of_key ks ≡ fs → filter_map of_key js ≡ gs
        → filter_map (λ (i : Import). f i.kind) (filter_map (function_import Shared p parts exports lay) lay.numbers.functions ++ filter_map (global_import Shared p parts exports lay) lay.numbers.globals) ≡ fs ++ gs
    unfolding layout functions globals
    picked fs gs a b =
        let outs = filter_map (global_import Shared p parts exports lay) (map outside_global js ++ es) in
        filter_map-append (λ (i : Import). f i.kind) (filter_map (function_import Shared p parts exports lay) (map outside ks ++ ds)) outs
        ∙ ap (λ xs. xs ++ filter_map (λ (i : Import). f i.kind) outs) (from_functions ks ds no_function ∙ a)
        ∙ ap (λ xs. fs ++ xs) (from_globals js es no_global ∙ b)

  abbrev index_of : FunctionKey → ℕ
  index_of k = type_place lay.numbers (type_of p parts k)

  functions_in : imported a_function (imports Shared p parts exports lay) ≡ map (λ (k : ImportKey). index_of (outside k)) ks
  functions_in =
      picked a_function (map (λ (k : ImportKey). index_of (outside k)) ks) []
      (each_is _ (λ k. index_of (outside k)) ks (λ k h. one k.type k.module_name k.field (function_typed k h)))
      (none_of _ js (λ k h. none k.type k.module_name k.field (global_typed k h)))
      ∙ append-nil (map (λ (k : ImportKey). index_of (outside k)) ks)
    where
      one : (t : SymbolType) (place field : List ℕ) → is_function_type t ≡ true
          → a_function (import_for Shared p parts exports lay (record { module_name = place; field = field; type = t })).kind ≡ Some (index_of (outside (record { module_name = place; field = field; type = t })))
      one (of_function t) place field h = refl
      one (of_global g) place field h = absurd (grind arith)
      one untyped place field h = absurd (grind arith)

      none : (t : SymbolType) (place field : List ℕ) → is_global_type t ≡ true → a_function (import_for Shared p parts exports lay (record { module_name = place; field = field; type = t })).kind ≡ None
      none (of_function t) place field h = absurd (grind arith)
      none (of_global g) place field h = refl
      none untyped place field h = absurd (grind arith)

  globals_in : imported a_global (imports Shared p parts exports lay) ≡ map (λ (k : ImportKey). symbol_cell k.type) js
  globals_in =
      picked a_global [] (map (λ (k : ImportKey). symbol_cell k.type) js)
      (none_of _ ks (λ k h. none k.type k.module_name k.field (function_typed k h)))
      (each_is _ (λ k. symbol_cell k.type) js (λ k h. one k.type k.module_name k.field (global_typed k h)))
    where
      none : (t : SymbolType) (place field : List ℕ) → is_function_type t ≡ true → a_global (import_for Shared p parts exports lay (record { module_name = place; field = field; type = t })).kind ≡ None
      none (of_function t) place field h = refl
      none (of_global g) place field h = absurd (grind arith)
      none untyped place field h = absurd (grind arith)

      one : (t : SymbolType) (place field : List ℕ) → is_global_type t ≡ true
          → a_global (import_for Shared p parts exports lay (record { module_name = place; field = field; type = t })).kind ≡ Some (symbol_cell t)
      one (of_function t) place field h = absurd (grind arith)
      one (of_global g) place field h = refl
      one untyped place field h = absurd (grind arith)

  tables_in : imported a_table (imports Shared p parts exports lay) ≡ shared_table p exports ∷ []
  tables_in =
      ap (λ xs. shared_table p exports ∷ xs)
      (picked a_table [] [] (none_of _ ks (λ k h. none k.type k.module_name k.field)) (none_of _ js (λ k h. none k.type k.module_name k.field)))
    where
      none : (t : SymbolType) (place field : List ℕ) → a_table (import_for Shared p parts exports lay (record { module_name = place; field = field; type = t })).kind ≡ None
      none (of_function t) place field = refl
      none (of_global g) place field = refl
      none untyped place field = refl

  memories_in : imported a_memory (imports Shared p parts exports lay) ≡ memory Shared p parts exports lay ∷ []
  memories_in =
      ap (λ xs. memory Shared p parts exports lay ∷ xs)
      (picked a_memory [] [] (none_of _ ks (λ k h. none k.type k.module_name k.field)) (none_of _ js (λ k h. none k.type k.module_name k.field)))
    where
      none : (t : SymbolType) (place field : List ℕ) → a_memory (import_for Shared p parts exports lay (record { module_name = place; field = field; type = t })).kind ≡ None
      none (of_function t) place field = refl
      none (of_global g) place field = refl
      none untyped place field = refl

  -- ---- with what is defined

  functions_are : imported a_function (imports Shared p parts exports lay) ++ map index_of (filter (λ k. not (is_import Shared p parts exports lay k)) lay.numbers.functions) ≡ map index_of lay.numbers.functions
  unfolding layout functions
  functions_are =
      ap (λ xs. xs ++ map index_of (filter (λ k. not (is_import Shared p parts exports lay k)) (map outside ks ++ ds))) functions_in
      ∙ ap (λ xs. map (λ (k : ImportKey). index_of (outside k)) ks ++ map index_of xs) (defined_is p parts exports)
      ∙ ap (λ xs. xs ++ map index_of ds) (sym (map_map index_of outside ks))
      ∙ sym (map-append index_of (map outside ks) ds)

  -- the part of a global that an object defines
  abbrev IsOwn : Option Part → Type 0
  IsOwn o = option_map (λ (g : ModuleGlobal). g.kind) (global_content Shared p parts exports lay o) ≡ Some (part_cell o)

  content_is : (part : Part) (c : Content) → part.content ≡ c → IsGlobalPart c → IsOwn (Some part)
  content_is part (function t) e h = absurd h
  content_is part (segment info) e h = absurd h
  content_is part (global g) e h = ap (λ c. option_map (λ (g : ModuleGlobal). g.kind) (content_global c)) e ∙ ap (λ c. Some (content_cell c)) (sym e)
  content_is part (linker_made m) e h = absurd h

  own_is : (x : Part) → Has parts x → x.chunk.kind ≡ 2 → (x.chunk.input ≡ 0 → ⊥) → IsOwn (find (is_global_at x.chunk.input x.chunk.index) parts)
  own_is x h k z =
      let f = own_found p parts exports lk.constants x h k z in
      subst IsOwn (sym f.0.is) (content_is f.0.part f.0.part.content refl f.1)

  abbrev OfKind : GlobalKey → Type 0
  OfKind k = global_import Shared p parts exports lay k ≡ None → option_map (λ (g : ModuleGlobal). g.kind) (global_for Shared p parts exports lay k) ≡ Some (shared_cell parts k)

  -- each global that is defined has the type of its key
  global_one : (k : GlobalKey) → Has es k → option_map (λ (g : ModuleGlobal). g.kind) (global_for Shared p parts exports lay k) ≡ Some (shared_cell parts k)
  unfolding globals
  global_one k h =
      by_global p parts exports OfKind (λ i m q. absurd (grind arith)) (λ x m a b q. own_is x m a b) (λ g m q. refl) (λ e m t q. refl)
      k (has_right (map outside_global js) es k h) (no_global k h)

  kinds_are : (ds : List GlobalKey) → ((k : GlobalKey) → Has ds k → option_map (λ (g : ModuleGlobal). g.kind) (global_for Shared p parts exports lay k) ≡ Some (shared_cell parts k))
      → map (λ (g : ModuleGlobal). g.kind) (filter_map (global_for Shared p parts exports lay) ds) ≡ map (shared_cell parts) ds
  kinds_are [] f = refl
  kinds_are (k ∷ ds) f = onto (global_for Shared p parts exports lay k) (f k (inl refl)) (kinds_are ds (λ j h. f j (inr h)))
    where
      onto : (o : Option ModuleGlobal) → option_map (λ (g : ModuleGlobal). g.kind) o ≡ Some (shared_cell parts k)
          → map (λ (g : ModuleGlobal). g.kind) (filter_map (global_for Shared p parts exports lay) ds) ≡ map (shared_cell parts) ds
          → map (λ (g : ModuleGlobal). g.kind) (cons_option o (filter_map (global_for Shared p parts exports lay) ds)) ≡ shared_cell parts k ∷ map (shared_cell parts) ds
      onto None e rest = absurd (grind arith)
      onto (Some g) e rest = ap (λ t. t ∷ map (λ (g : ModuleGlobal). g.kind) (filter_map (global_for Shared p parts exports lay) ds)) (some_is g.kind (shared_cell parts k) e) ∙ ap (λ xs. shared_cell parts k ∷ xs) rest

  outer_none : (xs : List ImportKey) (ys : List GlobalKey) → filter_map (global_for Shared p parts exports lay) (map outside_global xs ++ ys) ≡ filter_map (global_for Shared p parts exports lay) ys
  outer_none [] ys = refl
  outer_none (x ∷ xs) ys = outer_none xs ys

  globals_are : imported a_global (imports Shared p parts exports lay) ++ map (λ (g : ModuleGlobal). g.kind) (filter_map (global_for Shared p parts exports lay) lay.numbers.globals) ≡ map (shared_cell parts) lay.numbers.globals
  unfolding layout globals
  globals_are =
      ap (λ xs. xs ++ map (λ (g : ModuleGlobal). g.kind) (filter_map (global_for Shared p parts exports lay) (map outside_global js ++ es))) globals_in
      ∙ ap (λ xs. map (λ (k : ImportKey). symbol_cell k.type) js ++ map (λ (g : ModuleGlobal). g.kind) xs) (outer_none js es)
      ∙ ap (λ xs. map (λ (k : ImportKey). symbol_cell k.type) js ++ xs) (kinds_are es global_one)
      ∙ ap (λ xs. xs ++ map (shared_cell parts) es) (sym (map_map (shared_cell parts) outside_global js))
      ∙ sym (map-append (shared_cell parts) (map outside_global js) es)

  pub spaces : HasSpaces p exports
  unfolding shared_by image
  spaces = record {
    types = refl;
    functions = functions_are;
    globals = globals_are;
    imported = globals_in;
    tables = ap (λ xs. xs ++ []) tables_in;
    memories = ap (λ xs. xs ++ []) memories_in;
  }
