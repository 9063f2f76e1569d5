-- The index spaces of the output's module, by kinds of what is imported and defined.
use Rattle.std.proofs.Common.{◌≡◌, ℕ, List, [], ◌∷◌, ◌++◌, map, Option, Some, None, Bool, true, false, refl, sym, ap, ◌∙◌, subst, inl, inr, ⊎_elim, arith}
use Rattle.std.specs.Prelude.{◌==◌, ◌&&◌, not, filter, filter_map, find, option_map, cond}
use Rattle.std.specs.List.{cons_option}
use Rattle.std.proofs.lemmas.List.{append-nil, map-append}
use Rattle.std.proofs.lemmas.Bool.{and_parts, eqb-true}
use Rattle.list_places.specs.Has.{Has}
use Rattle.list_places.proofs.Lists.{has_left, has_right, has_either, has_map, map_has, has_pick, given_some, some_is}
use Rattle.link_worlds.specs.link_rules.object_file.wasm_types.declared.import.Import.{Import}
use Rattle.link_worlds.specs.link_rules.object_file.wasm_types.declared.import.ImportKind.{ImportKind}
use Rattle.link_worlds.specs.link_rules.object_file.wasm_module.declared.parts.ModuleGlobal.{ModuleGlobal}
use Rattle.link_worlds.specs.link_rules.object_file.linking_section.declared.symbol.SymbolKind.TheVariants.{Datum}
use Rattle.made_symbols.specs.declared.mode.Mode.TheVariants.{Plain}
use Rattle.link_worlds.specs.link_rules.name_rules.Entries.{InputSymbol, ImportKey, SymbolType, of_function, of_global, untyped, is_kind}
use Rattle.link_worlds.specs.link_rules.Program.{Program, Part, Content, function, segment, global, linker_made}
use Rattle.link_worlds.specs.link_rules.Marks.{live, refs_of}
use Rattle.link_worlds.specs.link_rules.Keys.{FunctionKey, GlobalKey, outside, linker_function, stub, own, outside_global, linker_global, own_global, got, exported_datum, functions, defined_functions, function_imports_of, globals, defined_globals, used_globals, made_global_key, own_global_key, got_entries, datum_key, type_of, type_place, is_function_type, is_global_type}
use Rattle.link_worlds.specs.link_rules.Values.{Layout}
use Rattle.link_worlds.specs.link_rules.Output.{layout, image, is_import, function_import, global_import, import_for, memory_import, memory, table, imports, global_for, global_content, content_global}
use Rattle.link_worlds.specs.Worlds.{layout_of, module_by}
use Rattle.link_worlds.specs.Sound.{IsGlobalPart}
use Rattle.link_worlds.specs.Statements.{LinkedBy}
use Rattle.link_worlds.proofs.Functions.{stood}
use Rattle.link_worlds.proofs.Imports.{picked_imports, none_of}
use Rattle.link_worlds.proofs.Spaces.{outer, kept_defined, outer_defined, global_typed}
use Rattle.link_worlds.proofs.Start.{IfOwn, own_among}
use Rattle.wasm_valid.specs.Spaces.{a_function, a_table, a_memory, a_global, imported}
use Rattle.output_types.specs.Types.{symbol_cell, content_cell, part_cell, is_global_at, cell_type}
use Rattle.output_types.specs.Spaces.{HasSpaces}

-- what passes a test is found
found : {A : Type 0} (test : A → Bool) (xs : List A) (x : A) → Has xs x → test x ≡ true → (y : A) × (find test xs ≡ Some y) × Has xs y × (test y ≡ true)
found test [] x h t = absurd h
found test (y ∷ ys) x h t = onto (test y) refl h (λ k. found test ys x k t)
  where
    onto : (b : Bool) → test y ≡ b → Has (y ∷ ys) x → (Has ys x → (z : _) × (find test ys ≡ Some z) × Has ys z × (test z ≡ true)) → (z : _) × (cond b (Some y) (find test ys) ≡ Some z) × Has (y ∷ ys) z × (test z ≡ true)
    onto true e k again = (y, refl, inl refl, e)
    onto false e (inl q) again = absurd (let r : test y ≡ true = ap test q ∙ t in grind arith)
    onto false e (inr k) again = let r = again k in (r.0, r.1, inr r.2, r.3)

module _ (p : Program) (exports : List InputSymbol) (lk : LinkedBy p exports (layout_of p exports)) where
  abbrev parts : List Part
  parts = live p exports

  abbrev lay : Layout
  lay = layout Plain p (live p exports) exports

  -- the imports of a kind, by keys: the memory's, those of functions, those of globals
  module _ {B : Type 0} (f : ImportKind → Option B) where
    abbrev function_part : FunctionKey → Option Import
    function_part = function_import Plain p parts exports lay

    abbrev global_part : GlobalKey → Option Import
    global_part = global_import Plain p parts exports lay

    abbrev as_function : ImportKey → Option B
    as_function k = f (import_for Plain p parts exports lay k).kind

    -- functions that are imported give what their keys give
    from_functions : (ks : List ImportKey) (ds : List FunctionKey) (bs : List B) → ((k : FunctionKey) → Has ds k → is_import Plain p parts exports lay k ≡ false)
        → filter_map as_function ks ≡ bs → filter_map (λ (i : Import). f i.kind) (filter_map function_part (map outside ks ++ ds)) ≡ bs
    from_functions [] [] bs g e = e
    from_functions [] (outside k ∷ ds) bs g e = absurd (let q = g (outside k) (inl refl) in grind arith)
    from_functions [] (linker_function k ∷ ds) bs g e = from_functions [] ds bs (λ k h. g k (inr h)) e
    from_functions [] (stub k ∷ ds) bs g e = from_functions [] ds bs (λ k h. g k (inr h)) e
    from_functions [] (own i k ∷ ds) bs g e = from_functions [] ds bs (λ k h. g k (inr h)) e
    from_functions (k ∷ ks) ds bs g e = ap (λ xs. cons_option (as_function k) xs) (from_functions ks ds (filter_map as_function ks) g refl) ∙ e

    from_globals : (ks : List ImportKey) (ds : List GlobalKey) (bs : List B) → ((k : GlobalKey) → Has ds k → global_part k ≡ None)
        → filter_map as_function ks ≡ bs → filter_map (λ (i : Import). f i.kind) (filter_map global_part (map outside_global ks ++ ds)) ≡ bs
    from_globals [] [] bs g e = e
    from_globals [] (outside_global k ∷ ds) bs g e = absurd (let q = g (outside_global k) (inl refl) in grind arith)
    from_globals [] (linker_global k ∷ ds) bs g e = from_globals [] ds bs (λ k h. g k (inr h)) e
    from_globals [] (own_global i k ∷ ds) bs g e = from_globals [] ds bs (λ k h. g k (inr h)) e
    from_globals [] (got k ∷ ds) bs g e = from_globals [] ds bs (λ k h. g k (inr h)) e
    from_globals [] (exported_datum k ∷ ds) bs g e = from_globals [] ds bs (λ k h. g k (inr h)) e
    from_globals (k ∷ ks) ds bs g e = ap (λ xs. cons_option (as_function k) xs) (from_globals ks ds (filter_map as_function ks) g refl) ∙ e

  -- ---- the keys

  abbrev ks : List ImportKey
  ks = function_imports_of Plain p (refs_of parts)

  abbrev ds : List FunctionKey
  ds = defined_functions p parts

  abbrev js : List ImportKey
  js = used_globals Plain p (refs_of parts)

  abbrev es : List GlobalKey
  es = defined_globals Plain parts exports

  function_typed : (k : ImportKey) → Has ks k → is_function_type k.type ≡ true
  unfolding functions
  function_typed k h = stood parts p (outside k) (has_left (map outside ks) ds (outside k) (map_has outside ks k h))

  global_is : (k : ImportKey) → Has js k → is_global_type k.type ≡ true
  unfolding globals
  global_is k h = global_typed p exports lk.sound (outside_global k) (has_left (map outside_global js) es (outside_global k) (map_has outside_global js k h))

  -- a definition is no import
  inner_functions : (k : FunctionKey) → Has ds k → is_import Plain p parts exports lay k ≡ false
  inner_functions k h = by_key k (outer_defined p exports lk.sound k h)
    where
      by_key : (k : FunctionKey) → outer p exports lk.sound k ≡ false → is_import Plain p parts exports lay k ≡ false
      by_key (outside k) q = q
      by_key (linker_function k) q = refl
      by_key (stub k) q = refl
      by_key (own i k) q = refl

  inner_globals : (k : GlobalKey) → Has es k → global_import Plain p parts exports lay k ≡ None
  inner_globals k h =
      let mades = filter_map made_global_key parts in
      let owns = filter_map own_global_key parts in
      let gots = map got (got_entries Plain parts) in
      let dates = filter_map datum_key exports in
      let none = λ (k : GlobalKey). global_import Plain p parts exports lay k ≡ None in
      ⊎_elim
      (λ g. ⊎_elim
      (λ g. ⊎_elim
      (λ a. let r = has_pick made_global_key parts k a in subst none (given_some ((r.0.chunk.input == 0) && (r.0.chunk.kind == 2)) (linker_global r.0.chunk.index) k r.2).1 refl)
      (λ a. let r = has_pick own_global_key parts k a in subst none (given_some (not (r.0.chunk.input == 0) && (r.0.chunk.kind == 2)) (own_global r.0.chunk.input r.0.chunk.index) k r.2).1 refl)
      (has_either mades owns k g))
      (λ a. let r = has_map got (got_entries Plain parts) k a in subst none r.2 refl)
      (has_either (mades ++ owns) gots k g))
      (λ a. let r = has_pick datum_key exports k a in subst none (given_some (is_kind Datum r.0) (exported_datum r.0) k r.2).1 refl)
      (has_either (mades ++ owns ++ gots) dates k h)

  -- ---- what is imported, by kind

  picked : {B : Type 0} (f : ImportKind → Option B) (ms fs gs : List B)
      → ((b : Bool) → filter_map (λ (i : Import). f i.kind) (cond b (memory_import Plain p parts exports lay) []) ≡ cond b ms [])
      → filter_map (λ (k : ImportKey). f (import_for Plain p parts exports lay k).kind) ks ≡ fs
      → filter_map (λ (k : ImportKey). f (import_for Plain p parts exports lay k).kind) js ≡ gs
      → imported f (imports Plain p parts exports lay) ≡ cond p.plan.import_memory ms [] ++ (fs ++ gs)
  unfolding layout functions globals
  picked f ms fs gs m a b =
      picked_imports p parts exports lay (λ i. f i.kind)
      ∙ ap (λ xs. xs ++ (filter_map (λ (i : Import). f i.kind) (filter_map (function_import Plain p parts exports lay) (map outside ks ++ ds)) ++ filter_map (λ (i : Import). f i.kind) (filter_map (global_import Plain p parts exports lay) (map outside_global js ++ es)))) (m p.plan.import_memory)
      ∙ ap (λ xs. cond p.plan.import_memory ms [] ++ (xs ++ filter_map (λ (i : Import). f i.kind) (filter_map (global_import Plain p parts exports lay) (map outside_global js ++ es)))) (from_functions f ks ds fs inner_functions a)
      ∙ ap (λ xs. cond p.plan.import_memory ms [] ++ (fs ++ xs)) (from_globals f js es gs inner_globals b)

  no_items : {A : Type 0} (b : Bool) (xs : List A) → xs ≡ [] → cond b xs [] ≡ []
  no_items true xs e = e
  no_items false xs e = refl

  -- one kind of imports gives what each is, the other nothing
  each_is : {A B : Type 0} (f : A → Option B) (g : A → B) (xs : List A) → ((x : A) → Has xs x → f x ≡ Some (g x)) → filter_map f xs ≡ map g xs
  each_is f g [] h = refl
  each_is f g (x ∷ xs) h = ap (λ o. cons_option o (filter_map f xs)) (h x (inl refl)) ∙ ap (λ ys. g x ∷ ys) (each_is f g xs (λ y m. h y (inr m)))

  abbrev index_of : FunctionKey → ℕ
  index_of k = type_place lay.numbers (type_of p parts k)

  functions_in : imported a_function (imports Plain p parts exports lay) ≡ map (λ (k : ImportKey). index_of (outside k)) ks
  functions_in =
      picked a_function [] (map (λ (k : ImportKey). index_of (outside k)) ks) []
      (λ b. by b)
      (each_is _ (λ k. index_of (outside k)) ks (λ k h. one k.type k.module_name k.field (function_typed k h)))
      (none_of _ js (λ k h. none k.type k.module_name k.field (global_is k h)))
      ∙ ap (λ xs. xs ++ (map (λ (k : ImportKey). index_of (outside k)) ks ++ [])) (no_items p.plan.import_memory [] refl)
      ∙ append-nil (map (λ (k : ImportKey). index_of (outside k)) ks)
    where
      by : (b : Bool) → filter_map (λ (i : Import). a_function i.kind) (cond b (memory_import Plain p parts exports lay) []) ≡ cond b [] []
      by true = refl
      by false = refl

      one : (t : SymbolType) (place field : List ℕ) → is_function_type t ≡ true
          → a_function (import_for Plain p parts exports lay (record { module_name = place; field = field; type = t })).kind ≡ Some (index_of (outside (record { module_name = place; field = field; type = t })))
      one (of_function t) place field h = refl
      one (of_global g) place field h = absurd (grind arith)
      one untyped place field h = absurd (grind arith)

      none : (t : SymbolType) (place field : List ℕ) → is_global_type t ≡ true → a_function (import_for Plain p parts exports lay (record { module_name = place; field = field; type = t })).kind ≡ None
      none (of_function t) place field h = absurd (grind arith)
      none (of_global g) place field h = refl
      none untyped place field h = absurd (grind arith)

  pub globals_in : imported a_global (imports Plain p parts exports lay) ≡ map (λ (k : ImportKey). symbol_cell k.type) js
  globals_in =
      picked a_global [] [] (map (λ (k : ImportKey). symbol_cell k.type) js)
      (λ b. by b)
      (none_of _ ks (λ k h. none k.type k.module_name k.field (function_typed k h)))
      (each_is _ (λ k. symbol_cell k.type) js (λ k h. one k.type k.module_name k.field (global_is k h)))
      ∙ ap (λ xs. xs ++ map (λ (k : ImportKey). symbol_cell k.type) js) (no_items p.plan.import_memory [] refl)
    where
      by : (b : Bool) → filter_map (λ (i : Import). a_global i.kind) (cond b (memory_import Plain p parts exports lay) []) ≡ cond b [] []
      by true = refl
      by false = refl

      none : (t : SymbolType) (place field : List ℕ) → is_function_type t ≡ true → a_global (import_for Plain p parts exports lay (record { module_name = place; field = field; type = t })).kind ≡ None
      none (of_function t) place field h = refl
      none (of_global g) place field h = absurd (grind arith)
      none untyped place field h = absurd (grind arith)

      one : (t : SymbolType) (place field : List ℕ) → is_global_type t ≡ true
          → a_global (import_for Plain p parts exports lay (record { module_name = place; field = field; type = t })).kind ≡ Some (symbol_cell t)
      one (of_function t) place field h = absurd (grind arith)
      one (of_global g) place field h = refl
      one untyped place field h = absurd (grind arith)

  tables_in : imported a_table (imports Plain p parts exports lay) ≡ []
  tables_in =
      picked a_table [] [] []
      (λ b. by b)
      (none_of _ ks (λ k h. none k.type k.module_name k.field))
      (none_of _ js (λ k h. none k.type k.module_name k.field))
      ∙ ap (λ xs. xs ++ []) (no_items p.plan.import_memory [] refl)
    where
      by : (b : Bool) → filter_map (λ (i : Import). a_table i.kind) (cond b (memory_import Plain p parts exports lay) []) ≡ cond b [] []
      by true = refl
      by false = refl

      none : (t : SymbolType) (place field : List ℕ) → a_table (import_for Plain p parts exports lay (record { module_name = place; field = field; type = t })).kind ≡ None
      none (of_function t) place field = refl
      none (of_global g) place field = refl
      none untyped place field = refl

  memories_in : imported a_memory (imports Plain p parts exports lay) ≡ cond p.plan.import_memory (memory Plain p parts exports lay ∷ []) []
  memories_in =
      picked a_memory (memory Plain p parts exports lay ∷ []) [] []
      (λ b. by b)
      (none_of _ ks (λ k h. none k.type k.module_name k.field))
      (none_of _ js (λ k h. none k.type k.module_name k.field))
      ∙ append-nil (cond p.plan.import_memory (memory Plain p parts exports lay ∷ []) [])
    where
      by : (b : Bool) → filter_map (λ (i : Import). a_memory i.kind) (cond b (memory_import Plain p parts exports lay) []) ≡ cond b (memory Plain p parts exports lay ∷ []) []
      by true = refl
      by false = refl

      none : (t : SymbolType) (place field : List ℕ) → a_memory (import_for Plain p parts exports lay (record { module_name = place; field = field; type = t })).kind ≡ None
      none (of_function t) place field = refl
      none (of_global g) place field = refl
      none untyped place field = refl

  -- ---- with what is defined

  map_map : {A B C : Type 0} (f : B → C) (g : A → B) (xs : List A) → map f (map g xs) ≡ map (λ x. f (g x)) xs
  map_map f g [] = refl
  map_map f g (x ∷ xs) = ap (λ ys. f (g x) ∷ ys) (map_map f g xs)

  functions_are : imported a_function (imports Plain p parts exports lay) ++ map index_of (filter (λ k. not (is_import Plain p parts exports lay k)) lay.numbers.functions) ≡ map index_of lay.numbers.functions
  unfolding layout functions
  functions_are =
      ap (λ xs. xs ++ map index_of (filter (λ k. not (is_import Plain p parts exports lay k)) (map outside ks ++ ds))) functions_in
      ∙ ap (λ xs. map (λ (k : ImportKey). index_of (outside k)) ks ++ map index_of xs) (kept_defined p exports lk.sound ks ds (outer_defined p exports lk.sound))
      ∙ ap (λ xs. xs ++ map index_of ds) (sym (map_map index_of outside ks))
      ∙ sym (map-append index_of (map outside ks) ds)

  -- the part of a global that an object defines
  abbrev IsOwn : Option Part → Type 0
  IsOwn o = option_map (λ (g : ModuleGlobal). g.kind) (global_content Plain p parts exports lay o) ≡ Some (part_cell o)

  content_is : (part : Part) (c : Content) → part.content ≡ c → IsGlobalPart c → IsOwn (Some part)
  content_is part (function t) e h = absurd h
  content_is part (segment info) e h = absurd h
  content_is part (global g) e h = ap (λ c. option_map (λ (g : ModuleGlobal). g.kind) (content_global c)) e ∙ ap (λ c. Some (content_cell c)) (sym e)
  content_is part (linker_made m) e h = absurd h

  own_is : (i x : ℕ) → (part : Part) × Has parts part × (is_global_at i x part ≡ true) × (i ≡ 0 → ⊥) → IsOwn (find (is_global_at i x) parts)
  own_is i x o =
      let f = found (is_global_at i x) parts o.0 o.1 o.2 in
      let q = and_parts ((f.0.chunk.kind == 2) && (f.0.chunk.input == i)) (f.0.chunk.index == x) f.3 in
      let r = and_parts (f.0.chunk.kind == 2) (f.0.chunk.input == i) q.0 in
      subst IsOwn (sym f.1) (content_is f.0 f.0.content refl (lk.constants f.0 f.2 (eqb-true f.0.chunk.kind 2 r.0) (λ z. o.3 (sym (eqb-true f.0.chunk.input i r.1) ∙ z))))

  -- each global that is defined has the type of its key
  global_one : (k : GlobalKey) → Has es k → option_map (λ (g : ModuleGlobal). g.kind) (global_for Plain p parts exports lay k) ≡ Some (cell_type parts k)
  unfolding globals
  global_one k h = by_key k (inner_globals k h) (own_among p parts exports k (has_right (map outside_global js) es k h))
    where
      by_key : (k : GlobalKey) → global_import Plain p parts exports lay k ≡ None → IfOwn parts k → option_map (λ (g : ModuleGlobal). g.kind) (global_for Plain p parts exports lay k) ≡ Some (cell_type parts k)
      by_key (outside_global k) q o = absurd (grind arith)
      by_key (linker_global n) q o = refl
      by_key (own_global i x) q o = own_is i x o
      by_key (got k) q o = refl
      by_key (exported_datum e) q o = refl

  kinds_are : (ds : List GlobalKey) → ((k : GlobalKey) → Has ds k → option_map (λ (g : ModuleGlobal). g.kind) (global_for Plain p parts exports lay k) ≡ Some (cell_type parts k))
      → map (λ (g : ModuleGlobal). g.kind) (filter_map (global_for Plain p parts exports lay) ds) ≡ map (cell_type parts) ds
  kinds_are [] f = refl
  kinds_are (k ∷ ds) f = onto (global_for Plain p parts exports lay k) (f k (inl refl)) (kinds_are ds (λ j h. f j (inr h)))
    where
      onto : (o : Option ModuleGlobal) → option_map (λ (g : ModuleGlobal). g.kind) o ≡ Some (cell_type parts k)
          → map (λ (g : ModuleGlobal). g.kind) (filter_map (global_for Plain p parts exports lay) ds) ≡ map (cell_type parts) ds
          → map (λ (g : ModuleGlobal). g.kind) (cons_option o (filter_map (global_for Plain p parts exports lay) ds)) ≡ cell_type parts k ∷ map (cell_type parts) ds
      onto None e rest = absurd (grind arith)
      onto (Some g) e rest = ap (λ t. t ∷ map (λ (g : ModuleGlobal). g.kind) (filter_map (global_for Plain p parts exports lay) ds)) (some_is g.kind (cell_type parts k) e) ∙ ap (λ xs. cell_type parts k ∷ xs) rest

  outer_none : (xs : List ImportKey) (ys : List GlobalKey) → filter_map (global_for Plain p parts exports lay) (map outside_global xs ++ ys) ≡ filter_map (global_for Plain p parts exports lay) ys
  outer_none [] ys = refl
  outer_none (x ∷ xs) ys = outer_none xs ys

  globals_are : imported a_global (imports Plain p parts exports lay) ++ map (λ (g : ModuleGlobal). g.kind) (filter_map (global_for Plain p parts exports lay) lay.numbers.globals) ≡ map (cell_type parts) lay.numbers.globals
  unfolding layout globals
  globals_are =
      ap (λ xs. xs ++ map (λ (g : ModuleGlobal). g.kind) (filter_map (global_for Plain p parts exports lay) (map outside_global js ++ es))) globals_in
      ∙ ap (λ xs. map (λ (k : ImportKey). symbol_cell k.type) js ++ map (λ (g : ModuleGlobal). g.kind) xs) (outer_none js es)
      ∙ ap (λ xs. map (λ (k : ImportKey). symbol_cell k.type) js ++ xs) (kinds_are es global_one)
      ∙ ap (λ xs. xs ++ map (cell_type parts) es) (sym (map_map (cell_type parts) outside_global js))
      ∙ sym (map-append (cell_type parts) (map outside_global js) es)

  memories_are : (b : Bool) → cond b (memory Plain p parts exports lay ∷ []) [] ++ cond b [] (memory Plain p parts exports lay ∷ []) ≡ memory Plain p parts exports lay ∷ []
  memories_are true = refl
  memories_are false = refl

  pub spaces : HasSpaces p exports
  unfolding module_by image
  spaces = record {
    types = refl;
    functions = functions_are;
    globals = globals_are;
    tables = ap (λ xs. xs ++ table Plain p parts exports lay ∷ []) tables_in;
    memories = ap (λ xs. xs ++ cond p.plan.import_memory [] (memory Plain p parts exports lay ∷ [])) memories_in ∙ memories_are p.plan.import_memory;
  }
