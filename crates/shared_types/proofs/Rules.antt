-- The rules outside bodies hold of a shared output's module.
use Rattle.std.proofs.Common.{◌≡◌, ℕ, ◌/◌, ◌<◌, ◌≤◌, List, [], ◌∷◌, length, map, Some, None, Bool, true, false, refl, ap, ◌∙◌, subst, inl, inr, arith}
use Rattle.std.specs.Prelude.{◌==◌, ◌&&◌, ◌^◌, slice_get, filter_map, find, option_map, cond, nat_lt, nat_le, bytes_eq}
use Rattle.std.specs.List.{list_all}
use Rattle.std.proofs.lemmas.Bool.{and_from, lt-ltb, le-leb}
use Rattle.std.proofs.lemmas.Option.{slice_get-map}
use Rattle.std.proofs.lemmas.List.{length-map}
use Rattle.list_places.specs.Has.{Has}
use Rattle.list_places.proofs.Lists.{below, has_left, has_map, has_pick, pick_has, has_filter, some_is}
use Rattle.wasm_types.specs.declared.value.ValType.{ValType}
use Rattle.wasm_types.specs.declared.value.ValType.TheVariants.{I32}
use Rattle.wasm_types.specs.declared.table.GlobalType.{GlobalType}
use Rattle.wasm_types.specs.declared.const_expr.ConstExpr.{ConstExpr}
use Rattle.wasm_types.specs.declared.const_expr.ConstExpr.TheVariants as constants
use Rattle.wasm_module.specs.declared.structure.Module.{Module}
use Rattle.wasm_module.specs.declared.parts.Export.{Export}
use Rattle.wasm_module.specs.declared.parts.ModuleGlobal.{ModuleGlobal}
use Rattle.linking_section.specs.declared.symbol.SymbolKind.{SymbolKind}
use Rattle.linking_section.specs.declared.symbol.SymbolKind.TheVariants.{Function, Datum, GlobalVar, Section, Table}
use Rattle.linking_section.specs.Flags.{kind_code}
use Rattle.made_symbols.specs.declared.mode.Mode.TheVariants.{Shared}
use Rattle.mark_bits.specs.declared.chunk.Chunk.{Chunk}
use Rattle.live_mark.specs.Live.{ReachedLaw}
use Rattle.memory_layout.specs.Memory.{up}
use Rattle.image_emit.specs.Bytes.{Block}
use Rattle.image_emit.specs.Spelled.{segments as data_segments}
use Rattle.name_rules.specs.Entries.{InputSymbol, ImportKey}
use Rattle.link_rules.specs.Program.{Program, Part, Content, function, segment, global, linker_made, chunk_of, chunk_by, chunk_at}
use Rattle.link_rules.specs.Marks.{Given, live, export_name, given_names, repeated_export}
use Rattle.link_rules.specs.Keys.{FunctionKey, GlobalKey, outside_global, linker_global, own_global, got, exported_datum, same_function, same_global, functions, globals, slots, global_imports_in, function_of, global_of, function_number, global_number, type_of, type_place}
use Rattle.link_rules.specs.Values.{Layout, slot_count}
use Rattle.link_rules.specs.Output.{layout, image, memory, elements, export_of, global_for, global_content, content_global}
use Rattle.link_worlds.specs.Sound.{PartOf}
use Rattle.link_worlds.proofs.Keys.{functions_same, globals_same}
use Rattle.link_worlds.proofs.Live.{live_root}
use Rattle.shared_module.specs.Outputs.{shared_by, shared_tree, shared_module}
use Rattle.wasm_valid.specs.declared.spaces.Spaces.{Spaces}
use Rattle.wasm_valid.specs.Spaces.{functions_of, tables_of, memories_of, globals_of, spaces_of}
use Rattle.wasm_valid.specs.Rules.{has_type, is_const, below as index_below, is_function_table, global_stands, export_stands, element_stands, segment_stands, types_stand, memories_stand, tables_stand, parts_stand, all_differ, is_memory, stands}
use Rattle.output_types.specs.Types.{symbol_cell, is_global_at}
use Rattle.shared_types.specs.Types.{shared_cell}
use Rattle.shared_types.specs.Linked.{SharedLinkedBy}
use Rattle.shared_types.specs.Spaces.{HasSpaces}
use Rattle.shared_types.specs.Checked.{IsBase, IsChecked}
use Rattle.shared_types.proofs.Lists.{all_true, itself, number_below}
use Rattle.shared_types.proofs.KeyPlaces.{function_here, global_here, datum_here}
use Rattle.shared_types.proofs.Meanings.{key_typed}
use Rattle.shared_types.proofs.Names.{names_differ}

-- a constant reads no global
plain_constant : (gs : List GlobalType) (t : ValType) (e : ConstExpr) → has_type [] t e ≡ true → has_type gs t e ≡ true
plain_constant gs t (constants.I32 z) h = h
plain_constant gs t (constants.I64 z) h = h
plain_constant gs t (constants.Get g) h = absurd (grind arith)

-- the pages of data that end within 32 bits
few_pages : (n : ℕ) → n < 2 ^ 32 → up n 65536 / 65536 ≤ 65536
few_pages n h = omega (arith, h)

module _ (law : ReachedLaw) (p : Program) (exports : List InputSymbol) (lk : SharedLinkedBy p exports) (s : HasSpaces p exports) (checked : IsChecked p exports) where
  abbrev parts : List Part
  parts = live p exports

  abbrev lay : Layout
  lay = layout Shared p (live p exports) exports

  abbrev m : Module
  m = shared_module p exports

  abbrev sp : Spaces
  sp = spaces_of (shared_module p exports)

  abbrev index_of : FunctionKey → ℕ
  index_of k = type_place lay.numbers (type_of p (live p exports) k)

  -- ---- how many there are

  function_count : length (functions_of m) ≡ length lay.numbers.functions
  function_count = ap length s.functions ∙ length-map lay.numbers.functions index_of

  global_count : length (globals_of m) ≡ length lay.numbers.globals
  global_count = ap length s.globals ∙ length-map lay.numbers.globals (shared_cell (live p exports))

  -- ---- types, memories, tables

  type_below : (k : FunctionKey) → Has lay.numbers.functions k → index_below (length m.types) (index_of k) ≡ true
  unfolding layout
  type_below k h =
      let l = below lay.numbers.types (index_of k) (type_of p parts k) (key_typed law p exports lk s k h) in
      let e : length m.types ≡ length lay.numbers.types = ap length s.types in
      lt-ltb (index_of k) (length m.types) (omega (arith, l, e))

  types_are : types_stand (length m.types) (functions_of m) ≡ true
  types_are =
      all_true (index_below (length m.types)) (functions_of m)
      (λ x h.
      let k = has_map index_of lay.numbers.functions x (subst (λ xs. Has xs x) s.functions h) in
      subst (λ x. index_below (length m.types) x ≡ true) k.2 (type_below k.0 k.1))

  memories_are : memories_stand (memories_of m) ≡ true
  memories_are =
      ap memories_stand s.memories
      ∙ and_from (is_memory (memory Shared p parts exports lay)) true
      (and_from (nat_le (up lay.places.data_end 65536 / 65536) 65536) true (le-leb (up lay.places.data_end 65536 / 65536) 65536 (few_pages lay.places.data_end checked.ends)) refl) refl

  tables_are : tables_stand (tables_of m) ≡ true
  tables_are = ap tables_stand s.tables

  -- ---- bases

  base_is : (n : ℕ) → IsBase p exports n → has_type sp.imported_globals I32 (constants.Get n) ≡ true
  base_is n b =
      ap (λ gs. is_const I32 (slice_get gs n)) s.imported
      ∙ ap (is_const I32) (slice_get-map (λ (k : ImportKey). symbol_cell k.type) (global_imports_in Shared p parts) n ∙ ap (option_map (λ (k : ImportKey). symbol_cell k.type)) b.1)
      ∙ ap (λ t. is_const I32 (Some (symbol_cell t))) b.2

  -- ---- globals

  global_holds : (part : Part) (c : Content) (g : ModuleGlobal) → Has parts part → part.content ≡ c → content_global c ≡ Some g → global_stands sp g ≡ true
  global_holds part (function t) g h e q = absurd (grind arith)
  global_holds part (segment info) g h e q = absurd (grind arith)
  global_holds part (linker_made n) g h e q = absurd (grind arith)
  global_holds part (global d) g h e q =
      subst (λ (x : ModuleGlobal). global_stands sp x ≡ true) (some_is (record { kind = d.kind; value = d.value }) g q)
      (plain_constant sp.imported_globals d.kind.kind d.value (checked.globals part d h e))

  own_holds : (test : Part → Bool) (ps : List Part) → ((part : Part) → Has ps part → Has parts part) → (g : ModuleGlobal) → global_content Shared p parts exports lay (find test ps) ≡ Some g → global_stands sp g ≡ true
  own_holds test [] f g e = absurd (grind arith)
  own_holds test (x ∷ xs) f g e = onto (test x) e (λ q. own_holds test xs (λ y h. f y (inr h)) g q)
    where
      onto : (b : Bool) → global_content Shared p parts exports lay (cond b (Some x) (find test xs)) ≡ Some g → (global_content Shared p parts exports lay (find test xs) ≡ Some g → global_stands sp g ≡ true) → global_stands sp g ≡ true
      onto true q rest = global_holds x x.content g (f x (inl refl)) refl q
      onto false q rest = rest q

  by_key : (k : GlobalKey) (g : ModuleGlobal) → global_for Shared p parts exports lay k ≡ Some g → global_stands sp g ≡ true
  by_key (outside_global k) g e = absurd (grind arith)
  by_key (linker_global n) g e = subst (λ (x : ModuleGlobal). global_stands sp x ≡ true) (some_is _ g e) refl
  by_key (own_global i x) g e = own_holds (is_global_at i x) parts (λ part h. h) g e
  by_key (got k) g e = subst (λ (x : ModuleGlobal). global_stands sp x ≡ true) (some_is _ g e) refl
  by_key (exported_datum d) g e = subst (λ (x : ModuleGlobal). global_stands sp x ≡ true) (some_is _ g e) refl

  globals_are : list_all (global_stands sp) (filter_map (global_for Shared p parts exports lay) lay.numbers.globals) ≡ true
  globals_are = all_true (global_stands sp) (filter_map (global_for Shared p parts exports lay) lay.numbers.globals)
      (λ g h. let k = has_pick (global_for Shared p parts exports lay) lay.numbers.globals g h in by_key k.0 g k.2)

  -- ---- exports

  function_index : (k : FunctionKey) → Has (functions Shared p parts) k → nat_lt (function_number lay.numbers k) (length (functions_of m)) ≡ true
  unfolding layout
  function_index k h =
      let l = number_below same_function (functions Shared p parts) k (itself same_function functions_same (functions Shared p parts) k h) in
      lt-ltb (function_number lay.numbers k) (length (functions_of m)) (omega (arith, l, function_count))

  global_index : (k : GlobalKey) → Has (globals Shared p parts exports) k → nat_lt (global_number lay.numbers k) (length (globals_of m)) ≡ true
  unfolding layout
  global_index k h =
      let l = number_below same_global (globals Shared p parts exports) k (itself same_global globals_same (globals Shared p parts exports) k h) in
      lt-ltb (global_number lay.numbers k) (length (globals_of m)) (omega (arith, l, global_count))

  module _ (e : InputSymbol) (h : Has exports e) where
    rooted : (c : Chunk) → chunk_of e ≡ Some c → PartOf (live p exports) c
    rooted c q =
        let first = pick_has chunk_of exports e c h q in
        live_root law p exports c (has_left _ _ c (has_left _ _ c (has_left (filter_map chunk_of exports) _ c first))) ((lk.exported.each e h).kept c q)

    by_kind : (k : SymbolKind) → e.symbol.kind ≡ k → export_stands sp (export_of Shared p parts exports lay e k) ≡ true
    by_kind Function q = function_index (function_of e) (function_here law p exports lk e (lk.exported.each e h).made (rooted (chunk_at e.input 0 e.index) (ap (chunk_by e) q)))
    by_kind Datum q = global_index (exported_datum e) (datum_here law p exports lk e h (ap (λ k. kind_code k == 1) q))
    by_kind GlobalVar q =
        global_index (global_of Shared e)
        (global_here law p exports lk e (ap (λ k. kind_code k == 2) q) (λ z. lk.entries.exported e h) (rooted (chunk_at e.input 2 e.index) (ap (chunk_by e) q)))
    by_kind Section q = ap (λ ts. nat_lt 0 (length ts)) s.tables
    by_kind Table q = ap (λ ts. nat_lt 0 (length ts)) s.tables

  exports_are : list_all (export_stands sp) (map (λ e. export_of Shared p parts exports lay e e.symbol.kind) exports) ≡ true
  exports_are =
      all_true (export_stands sp) (map (λ e. export_of Shared p parts exports lay e e.symbol.kind) exports)
      (λ x h. let e = has_map (λ (e : InputSymbol). export_of Shared p parts exports lay e e.symbol.kind) exports x h in
      subst (λ y. export_stands sp y ≡ true) e.2 (by_kind e.0 e.1 e.0.symbol.kind refl))

  -- their names

  name_is : (e : InputSymbol) (k : SymbolKind) → (export_of Shared p parts exports lay e k).name ≡ export_name p e
  name_is e Function = refl
  name_is e Datum = refl
  name_is e GlobalVar = refl
  name_is e Section = refl
  name_is e Table = refl

  names_are : (es : List InputSymbol) → map (λ (x : Export). x.name) (map (λ e. export_of Shared p parts exports lay e e.symbol.kind) es) ≡ map (λ (g : Given). g.name) (map (λ (e : InputSymbol). record { name = export_name p e; input = e.input }) es)
  names_are [] = refl
  names_are (e ∷ es) = ap (λ n. n ∷ map (λ (x : Export). x.name) (map (λ e. export_of Shared p parts exports lay e e.symbol.kind) es)) (name_is e e.symbol.kind) ∙ ap (λ ns. export_name p e ∷ ns) (names_are es)

  differ : all_differ bytes_eq (map (λ (x : Export). x.name) (map (λ e. export_of Shared p parts exports lay e e.symbol.kind) exports)) ≡ true
  unfolding repeated_export
  differ = ap (all_differ bytes_eq) (names_are exports) ∙ names_differ [] (given_names Shared p exports) checked.names

  -- ---- elements and data

  slot_there : (k : FunctionKey) → Has lay.numbers.slots k → Has (functions Shared p parts) k
  unfolding layout slots
  slot_there k h = (has_filter _ (functions Shared p parts) k h).0

  elements_are : list_all (element_stands sp) (elements Shared p parts exports lay) ≡ true
  elements_are = by (slot_count lay == 0)
    where
      in_range : list_all (index_below (length (functions_of m))) (map (function_number lay.numbers) lay.numbers.slots) ≡ true
      in_range = all_true (index_below (length (functions_of m))) (map (function_number lay.numbers) lay.numbers.slots)
          (λ n h. let k = has_map (function_number lay.numbers) lay.numbers.slots n h in
          subst (λ n. index_below (length (functions_of m)) n ≡ true) k.2 (function_index k.0 (slot_there k.0 k.1)))

      by : (b : Bool) → list_all (element_stands sp) (cond b [] (record { table = None; offset = constants.Get 2; functions = map (function_number lay.numbers) lay.numbers.slots } ∷ [])) ≡ true
      by true = refl
      by false =
          and_from (element_stands sp (record { table = None; offset = constants.Get 2; functions = map (function_number lay.numbers) lay.numbers.slots })) true
          (and_from (is_function_table (slice_get sp.tables 0)) (has_type sp.imported_globals I32 (constants.Get 2) && list_all (index_below (length (functions_of m))) (map (function_number lay.numbers) lay.numbers.slots))
          (ap (λ ts. is_function_table (slice_get ts 0)) s.tables)
          (and_from (has_type sp.imported_globals I32 (constants.Get 2)) (list_all (index_below (length (functions_of m))) (map (function_number lay.numbers) lay.numbers.slots)) (base_is 2 checked.table_base) in_range)) refl

  data_are : (bs : List Block) → list_all (segment_stands sp) (data_segments (constants.Get 1) bs) ≡ true
  data_are [] = refl
  data_are (b ∷ bs) =
      and_from (nat_lt 0 (length (memories_of m)) && has_type sp.imported_globals I32 (constants.Get 1)) true
      (and_from (nat_lt 0 (length (memories_of m))) (has_type sp.imported_globals I32 (constants.Get 1)) (ap (λ ms. nat_lt 0 (length ms)) s.memories) (base_is 1 checked.memory_base)) refl

  -- ---- all rules

  pub rules : stands (spaces_of (shared_module p exports)) (shared_module p exports) ≡ true
  unfolding stands shared_by image
  rules =
      and_from (types_stand (length m.types) (functions_of m)) _ types_are
      (and_from (memories_stand (memories_of m)) _ memories_are
      (and_from (tables_stand (tables_of m)) _ tables_are
      (and_from (parts_stand sp m) _
      (and_from (list_all (global_stands sp) m.globals) _ globals_are
      (and_from (list_all (export_stands sp) m.exports) _ exports_are
      (and_from (list_all (element_stands sp) m.elements) _ elements_are (data_are (shared_tree p parts exports lay).blocks))))
      differ)))
