-- The rules outside bodies hold of the output's module.
use Rattle.std.proofs.Common.{◌≡◌, ℕ, ◌+◌, ◌<◌, List, [], ◌∷◌, ◌++◌, length, map, Some, None, Bool, true, false, refl, sym, ap, ◌∙◌, subst, inl, inr, ⊎_elim, arith}
use Rattle.std.specs.Prelude.{◌⊎◌, ◌==◌, ◌&&◌, not, slice_get, filter_map, find, unwrap_or, cond, nat_lt, nat_le, bytes_eq, ℤ, pos}
use Rattle.std.specs.List.{list_all}
use Rattle.std.proofs.lemmas.Bool.{and_from, and_parts, lt-ltb, le-leb, eqb-true, cond-true, cond-false}
use Rattle.std.proofs.lemmas.List.{length-map}
use Rattle.list_places.specs.Has.{Has, Same}
use Rattle.list_places.proofs.Lists.{by_test, below, has_left, has_right, first_of, second_of, has_map, has_pick, pick_has, has_filter, placed, stands as stands_at, some_is}
use Rattle.link_worlds.specs.link_rules.object_file.wl_base.Choice.{given}
use Rattle.link_worlds.specs.link_rules.object_file.wasm_types.declared.value.ValType.{ValType}
use Rattle.link_worlds.specs.link_rules.object_file.wasm_types.declared.table.GlobalType.{GlobalType}
use Rattle.link_worlds.specs.link_rules.object_file.wasm_types.declared.const_expr.ConstExpr.{ConstExpr}
use Rattle.link_worlds.specs.link_rules.object_file.wasm_types.declared.const_expr.ConstExpr.TheVariants as constants
use Rattle.link_worlds.specs.link_rules.object_file.wasm_module.declared.structure.Module.{Module}
use Rattle.link_worlds.specs.link_rules.object_file.wasm_module.declared.parts.Export.{Export}
use Rattle.link_worlds.specs.link_rules.object_file.wasm_module.declared.parts.ModuleGlobal.{ModuleGlobal}
use Rattle.link_worlds.specs.link_rules.object_file.linking_section.declared.symbol.SymbolKind.{SymbolKind}
use Rattle.link_worlds.specs.link_rules.object_file.linking_section.declared.symbol.SymbolKind.TheVariants.{Function, Datum, GlobalVar, Section, Table}
use Rattle.link_worlds.specs.link_rules.object_file.linking_section.Flags.{kind_code}
use Rattle.index_layout.specs.Numbers.{number_by}
use Rattle.made_symbols.specs.declared.mode.Mode.TheVariants.{Plain}
use Rattle.mark_bits.specs.declared.chunk.Chunk.{Chunk}
use Rattle.live_mark.specs.Live.{ReachedLaw}
use Rattle.reloc_apply.specs.Windows.{signed32}
use Rattle.link_worlds.specs.link_rules.image_emit.Bytes.{Block}
use Rattle.link_worlds.specs.link_rules.image_emit.Spelled.{segments as data_segments}
use Rattle.link_worlds.specs.link_rules.name_rules.Entries.{InputSymbol, is_kind}
use Rattle.link_worlds.specs.link_rules.Program.{Program, Part, Content, function, segment, global, linker_made, chunk_of, chunk_by, chunk_at}
use Rattle.link_worlds.specs.link_rules.Marks.{Given, live, refs_of, export_name, memory_name, given_names, repeated_export}
use Rattle.link_worlds.specs.link_rules.Keys.{FunctionKey, GlobalKey, outside_global, linker_global, own_global, got, exported_datum, same_function, same_global, functions, globals, slots, used_globals, made_global_key, own_global_key, got_entries, datum_key, function_of, global_of, function_number, global_number, type_of, type_place}
use Rattle.link_worlds.specs.link_rules.Values.{Layout, slot_count, solid_segments}
use Rattle.link_worlds.specs.link_rules.Output.{layout, image, first_address, memory, memory_export, elements, export_of, global_for, global_content, content_global}
use Rattle.link_worlds.specs.Worlds.{layout_of, linked_tree, module_by, linked_module}
use Rattle.link_worlds.specs.Sound.{PartOf}
use Rattle.link_worlds.specs.Statements.{LinkedBy}
use Rattle.link_worlds.proofs.Keys.{functions_same, globals_same}
use Rattle.link_worlds.proofs.Live.{live_root}
use Rattle.link_worlds.proofs.Refs.{own_here}
use Rattle.link_worlds.proofs.Spaces.{key_typed}
use Rattle.wasm_valid.specs.declared.spaces.Spaces.{Spaces}
use Rattle.wasm_valid.specs.Spaces.{functions_of, tables_of, memories_of, globals_of, spaces_of}
use Rattle.wasm_valid.specs.Rules.{has_type, below as index_below, is_function_table, global_stands, export_stands, element_stands, segment_stands, types_stand, memories_stand, tables_stand, parts_stand, all_differ, is_memory, stands}
use Rattle.output_types.specs.Types.{is_global_at, cell_type}
use Rattle.output_types.specs.Spaces.{HasSpaces}
use Rattle.output_types.specs.Checked.{IsChecked}
use Rattle.output_types.proofs.Limits.{memory_is}
use Rattle.output_types.proofs.Names.{names_differ}

-- ---- lists

all_true : {A : Type 0} (test : A → Bool) (xs : List A) → ((x : A) → Has xs x → test x ≡ true) → list_all test xs ≡ true
all_true test [] f = refl
all_true test (x ∷ xs) f = and_from (test x) (list_all test xs) (f x (inl refl)) (all_true test xs (λ y h. f y (inr h)))

-- the number of a key that is there
number_in : {X : Type 0} (same : X → X → Bool) (s : Same same) (xs : List X) (k : X) → Has xs k → number_by same xs k < length xs
number_in same s xs k h =
    let n = placed (same k) xs k h (s.itself k) in
    let t = stands_at (same k) xs n.0 n.1 in
    let l : n.0 < length xs = below xs n.0 t.item t.there in
    let e : number_by same xs k ≡ n.0 = ap (λ o. unwrap_or o 0) n.1 in
    omega (arith, l, e)

-- the key of a global that is defined among these parts
cell_own : (parts : List Part) (e : InputSymbol) → (e.input ≡ 0 → e.index ≡ e.place) → PartOf parts (chunk_at e.input 2 e.index)
    → Has (filter_map made_global_key parts) (global_of Plain e) ⊎ Has (filter_map own_global_key parts) (global_of Plain e)
cell_own parts e made o =
    by_test (e.input == 0)
    (λ t. inl (pick_has made_global_key parts o.part (global_of Plain e) o.there
    (ap (λ (c : Chunk). given ((c.input == 0) && (c.kind == 2)) (linker_global c.index)) o.chunk
    ∙ ap (λ b. given (b && true) (linker_global e.index)) t
    ∙ ap Some (ap linker_global (made (eqb-true e.input 0 t)) ∙ sym (cond-true (e.input == 0) (linker_global e.place) (own_global e.input e.index) t)))))
    (λ t. inr (pick_has own_global_key parts o.part (global_of Plain e) o.there
    (ap (λ (c : Chunk). given (not (c.input == 0) && (c.kind == 2)) (own_global c.input c.index)) o.chunk
    ∙ ap (λ b. given (not b && true) (own_global e.input e.index)) t
    ∙ ap Some (sym (cond-false (e.input == 0) (linker_global e.place) (own_global e.input e.index) t)))))

-- ---- constant expressions

-- a constant reads no global
plain_constant : (gs : List GlobalType) (t : ValType) (e : ConstExpr) → has_type [] t e ≡ true → has_type gs t e ≡ true
plain_constant gs t (constants.I32 z) h = h
plain_constant gs t (constants.I64 z) h = h
plain_constant gs t (constants.Get g) h = absurd (grind arith)

module _ (law : ReachedLaw) (p : Program) (exports : List InputSymbol) (lk : LinkedBy p exports (layout_of p exports)) (s : HasSpaces p exports) (checked : IsChecked p exports) where
  abbrev parts : List Part
  parts = live p exports

  abbrev lay : Layout
  lay = layout Plain p (live p exports) exports

  abbrev m : Module
  m = linked_module p exports

  abbrev sp : Spaces
  sp = spaces_of (linked_module p exports)

  abbrev index_of : FunctionKey → ℕ
  index_of k = type_place lay.numbers (type_of p (live p exports) k)

  -- ---- how many there are

  function_count : length (functions_of m) ≡ length lay.numbers.functions
  function_count = ap length s.functions ∙ length-map lay.numbers.functions index_of

  global_count : length (globals_of m) ≡ length lay.numbers.globals
  global_count = ap length s.globals ∙ length-map lay.numbers.globals (cell_type (live p exports))

  -- ---- types, memories, tables

  types_are : types_stand (length m.types) (functions_of m) ≡ true
  unfolding layout
  types_are =
      all_true (index_below (length m.types)) (functions_of m)
      (λ x h.
      let k = has_map index_of lay.numbers.functions x (subst (λ xs. Has xs x) s.functions h) in
      let t = key_typed p exports lk.sound k.0 k.1 in
      let l = below lay.numbers.types (index_of k.0) (type_of p parts k.0) t in
      let e : length m.types ≡ length lay.numbers.types = ap length s.types in
      let q : x ≡ index_of k.0 = sym k.2 in
      lt-ltb x (length m.types) (omega (arith, l, e, q)))

  memories_are : memories_stand (memories_of m) ≡ true
  memories_are = ap memories_stand s.memories ∙ and_from (is_memory (memory Plain p parts exports lay)) true (memory_is p exports checked.plan checked.memory) refl

  tables_are : tables_stand (tables_of m) ≡ true
  tables_are = ap tables_stand s.tables ∙ and_from (nat_le (1 + slot_count lay) (1 + slot_count lay)) true (le-leb (1 + slot_count lay) (1 + slot_count lay) (omega arith)) refl

  -- ---- globals

  global_holds : (part : Part) (c : Content) (g : ModuleGlobal) → Has parts part → part.content ≡ c → content_global c ≡ Some g → global_stands sp g ≡ true
  global_holds part (function t) g h e q = absurd (grind arith)
  global_holds part (segment info) g h e q = absurd (grind arith)
  global_holds part (linker_made n) g h e q = absurd (grind arith)
  global_holds part (global d) g h e q =
      subst (λ (x : ModuleGlobal). global_stands sp x ≡ true) (some_is (record { kind = d.kind; value = d.value }) g q)
      (plain_constant sp.imported_globals d.kind.kind d.value (checked.globals part d h e))

  own_holds : (test : Part → Bool) (ps : List Part) → ((part : Part) → Has ps part → Has parts part) → (g : ModuleGlobal) → global_content Plain p parts exports lay (find test ps) ≡ Some g → global_stands sp g ≡ true
  own_holds test [] f g e = absurd (grind arith)
  own_holds test (x ∷ xs) f g e = onto (test x) e (λ q. own_holds test xs (λ y h. f y (inr h)) g q)
    where
      onto : (b : Bool) → global_content Plain p parts exports lay (cond b (Some x) (find test xs)) ≡ Some g → (global_content Plain p parts exports lay (find test xs) ≡ Some g → global_stands sp g ≡ true) → global_stands sp g ≡ true
      onto true q rest = global_holds x x.content g (f x (inl refl)) refl q
      onto false q rest = rest q

  by_key : (k : GlobalKey) (g : ModuleGlobal) → global_for Plain p parts exports lay k ≡ Some g → global_stands sp g ≡ true
  by_key (outside_global k) g e = absurd (grind arith)
  by_key (linker_global n) g e = subst (λ (x : ModuleGlobal). global_stands sp x ≡ true) (some_is _ g e) refl
  by_key (own_global i x) g e = own_holds (is_global_at i x) parts (λ part h. h) g e
  by_key (got k) g e = subst (λ (x : ModuleGlobal). global_stands sp x ≡ true) (some_is _ g e) refl
  by_key (exported_datum d) g e = subst (λ (x : ModuleGlobal). global_stands sp x ≡ true) (some_is _ g e) refl

  globals_are : list_all (global_stands sp) (filter_map (global_for Plain p parts exports lay) lay.numbers.globals) ≡ true
  globals_are = all_true (global_stands sp) (filter_map (global_for Plain p parts exports lay) lay.numbers.globals)
      (λ g h. let k = has_pick (global_for Plain p parts exports lay) lay.numbers.globals g h in by_key k.0 g k.2)

  -- ---- exports

  function_index : (k : FunctionKey) → Has (functions Plain p parts) k → nat_lt (function_number lay.numbers k) (length (functions_of m)) ≡ true
  unfolding layout
  function_index k h =
      let l = number_in same_function functions_same (functions Plain p parts) k h in
      lt-ltb (function_number lay.numbers k) (length (functions_of m)) (omega (arith, l, function_count))

  global_index : (k : GlobalKey) → Has (globals Plain p parts exports) k → nat_lt (global_number lay.numbers k) (length (globals_of m)) ≡ true
  unfolding layout
  global_index k h =
      let l = number_in same_global globals_same (globals Plain p parts exports) k h in
      lt-ltb (global_number lay.numbers k) (length (globals_of m)) (omega (arith, l, global_count))

  module _ (e : InputSymbol) (h : Has exports e) where
    rooted : (c : Chunk) → chunk_of e ≡ Some c → PartOf (live p exports) c
    rooted c q =
        let first = pick_has chunk_of exports e c h q in
        live_root law p exports c (has_left _ _ c (has_left _ _ c (has_left (filter_map chunk_of exports) _ c first))) ((lk.exported.each e h).kept c q)

    datum_there : e.symbol.kind ≡ Datum → Has (globals Plain p parts exports) (exported_datum e)
    unfolding globals
    datum_there k =
        let key = exported_datum e in
        let outs = map outside_global (used_globals Plain p (refs_of parts)) in
        let firsts = filter_map made_global_key parts ++ filter_map own_global_key parts ++ map got (got_entries Plain parts) in
        let kind : is_kind Datum e ≡ true = ap (λ s. kind_code s == 1) k in
        has_right outs (firsts ++ filter_map datum_key exports) key (has_right firsts (filter_map datum_key exports) key (pick_has datum_key exports e key h (ap (λ b. given b key) kind)))

    global_there : e.symbol.kind ≡ GlobalVar → Has (globals Plain p parts exports) (global_of Plain e)
    unfolding globals
    global_there k =
        let q = ap (chunk_by e) k in
        let outs = map outside_global (used_globals Plain p (refs_of parts)) in
        let mades = filter_map made_global_key parts in
        let owns = filter_map own_global_key parts in
        let gots = map got (got_entries Plain parts) in
        has_right outs (mades ++ owns ++ gots ++ filter_map datum_key exports) (global_of Plain e)
        (has_left (mades ++ owns ++ gots) (filter_map datum_key exports) (global_of Plain e)
        (⊎_elim (first_of mades owns gots (global_of Plain e)) (second_of mades owns gots (global_of Plain e)) (cell_own parts e (lk.exported.each e h).made (rooted (chunk_at e.input 2 e.index) q))))

    by_kind : (k : SymbolKind) → e.symbol.kind ≡ k → export_stands sp (export_of Plain p parts exports lay e k) ≡ true
    by_kind Function q = function_index (function_of e) (own_here law p exports lk.sound e (lk.exported.each e h).made (rooted (chunk_at e.input 0 e.index) (ap (chunk_by e) q)))
    by_kind Datum q = global_index (exported_datum e) (datum_there q)
    by_kind GlobalVar q = global_index (global_of Plain e) (global_there q)
    by_kind Section q = ap (λ ts. nat_lt 0 (length ts)) s.tables
    by_kind Table q = ap (λ ts. nat_lt 0 (length ts)) s.tables

  memory_exported : (b : Bool) → list_all (export_stands sp) (cond b [] (record { name = memory_name; kind = 2; index = 0 } ∷ [])) ≡ true
  memory_exported true = refl
  memory_exported false = and_from (nat_lt 0 (length (memories_of m))) true (ap (λ ms. nat_lt 0 (length ms)) s.memories) refl

  all_append : {A : Type 0} (test : A → Bool) (xs ys : List A) → list_all test xs ≡ true → list_all test ys ≡ true → list_all test (xs ++ ys) ≡ true
  all_append test [] ys a b = b
  all_append test (x ∷ xs) ys a b = let q = and_parts (test x) (list_all test xs) a in and_from (test x) (list_all test (xs ++ ys)) q.0 (all_append test xs ys q.1 b)

  exports_are : list_all (export_stands sp) (memory_export Plain p parts exports lay ++ map (λ e. export_of Plain p parts exports lay e e.symbol.kind) exports) ≡ true
  exports_are =
      all_append (export_stands sp) (memory_export Plain p parts exports lay) (map (λ e. export_of Plain p parts exports lay e e.symbol.kind) exports)
      (memory_exported p.plan.import_memory)
      (all_true (export_stands sp) (map (λ e. export_of Plain p parts exports lay e e.symbol.kind) exports)
      (λ x h. let e = has_map (λ (e : InputSymbol). export_of Plain p parts exports lay e e.symbol.kind) exports x h in
      subst (λ y. export_stands sp y ≡ true) e.2 (by_kind e.0 e.1 e.0.symbol.kind refl)))

  -- their names

  name_is : (e : InputSymbol) (k : SymbolKind) → (export_of Plain p parts exports lay e k).name ≡ export_name p e
  name_is e Function = refl
  name_is e Datum = refl
  name_is e GlobalVar = refl
  name_is e Section = refl
  name_is e Table = refl

  names_of : (es : List InputSymbol) → map (λ (x : Export). x.name) (map (λ e. export_of Plain p parts exports lay e e.symbol.kind) es) ≡ map (λ (g : Given). g.name) (map (λ (e : InputSymbol). record { name = export_name p e; input = e.input }) es)
  names_of [] = refl
  names_of (e ∷ es) = ap (λ n. n ∷ map (λ (x : Export). x.name) (map (λ e. export_of Plain p parts exports lay e e.symbol.kind) es)) (name_is e e.symbol.kind) ∙ ap (λ ns. export_name p e ∷ ns) (names_of es)

  names_are : map (λ (x : Export). x.name) (memory_export Plain p parts exports lay ++ map (λ e. export_of Plain p parts exports lay e e.symbol.kind) exports) ≡ map (λ (g : Given). g.name) (given_names Plain p exports)
  names_are = by p.plan.import_memory
    where
      by : (b : Bool) → map (λ (x : Export). x.name) (cond b [] (record { name = memory_name; kind = 2; index = 0 } ∷ []) ++ map (λ e. export_of Plain p parts exports lay e e.symbol.kind) exports)
          ≡ map (λ (g : Given). g.name) (cond b [] (record { name = memory_name; input = 0 } ∷ []) ++ map (λ (e : InputSymbol). record { name = export_name p e; input = e.input }) exports)
      by true = names_of exports
      by false = ap (λ ns. memory_name ∷ ns) (names_of exports)

  differ : all_differ bytes_eq (map (λ (x : Export). x.name) (memory_export Plain p parts exports lay ++ map (λ e. export_of Plain p parts exports lay e e.symbol.kind) exports)) ≡ true
  unfolding repeated_export
  differ = ap (all_differ bytes_eq) names_are ∙ names_differ [] (given_names Plain p exports) checked.names

  -- ---- elements and data

  slot_there : (k : FunctionKey) → Has lay.numbers.slots k → Has (functions Plain p parts) k
  unfolding layout slots
  slot_there k h = (has_filter _ (functions Plain p parts) k h).0

  elements_are : list_all (element_stands sp) (elements Plain p parts exports lay) ≡ true
  elements_are = by (slot_count lay == 0)
    where
      in_range : list_all (index_below (length (functions_of m))) (map (function_number lay.numbers) lay.numbers.slots) ≡ true
      in_range = all_true (index_below (length (functions_of m))) (map (function_number lay.numbers) lay.numbers.slots)
          (λ n h. let k = has_map (function_number lay.numbers) lay.numbers.slots n h in
          subst (λ n. index_below (length (functions_of m)) n ≡ true) k.2 (function_index k.0 (slot_there k.0 k.1)))

      by : (b : Bool) → list_all (element_stands sp) (cond b [] (record { table = None; offset = constants.I32 (pos 1); functions = map (function_number lay.numbers) lay.numbers.slots } ∷ [])) ≡ true
      by true = refl
      by false =
          and_from (element_stands sp (record { table = None; offset = constants.I32 (pos 1); functions = map (function_number lay.numbers) lay.numbers.slots })) true
          (and_from (is_function_table (slice_get sp.tables 0)) (list_all (index_below (length (functions_of m))) (map (function_number lay.numbers) lay.numbers.slots))
          (ap (λ ts. is_function_table (slice_get ts 0)) s.tables) in_range) refl

  data_are : (z : ℤ) (bs : List Block) → list_all (segment_stands sp) (data_segments (constants.I32 z) bs) ≡ true
  data_are z [] = refl
  data_are z (b ∷ bs) = ap (λ ms. (nat_lt 0 (length ms) && true) && true) s.memories

  -- ---- all rules

  pub rules : stands (spaces_of (linked_module p exports)) (linked_module p exports) ≡ true
  unfolding stands module_by image
  rules =
      and_from (types_stand (length m.types) (functions_of m)) _ types_are
      (and_from (memories_stand (memories_of m)) _ memories_are
      (and_from (tables_stand (tables_of m)) _ tables_are
      (and_from (parts_stand sp m) _
      (and_from (list_all (global_stands sp) m.globals) _ globals_are
      (and_from (list_all (export_stands sp) m.exports) _ exports_are
      (and_from (list_all (element_stands sp) m.elements) _ elements_are (data_are (signed32 (first_address Plain p parts exports lay (solid_segments p parts))) (linked_tree p parts exports lay).blocks))))
      differ)))
