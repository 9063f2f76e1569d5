-- The world of plan and files and that of the output's module pair, and begin alike.
use Rattle.std.proofs.Common.{◌≡◌, ℕ, List, [], ◌∷◌, ◌++◌, length, map, Option, Some, Bool, true, false, refl, sym, ap, ◌∙◌, subst, inl, inr, ⊎_elim, arith}
use Rattle.std.specs.Prelude.{◌*◌, ◌/◌, ◌==◌, ◌&&◌, ◌<◌, ◌^◌, not, slice_get, filter, filter_map, option_map, unwrap_or, cond, drop, bytes_eq}
use Rattle.std.proofs.lemmas.List.{map-append}
use Rattle.std.proofs.lemmas.Bool.{and_parts, and_from}
use Rattle.list_places.specs.Has.{Has, Apart}
use Rattle.list_places.proofs.Lists.{has_right, has_either, has_pick, pick_has, has_map, has_filter, apart_filter, given_some}
use Rattle.wasm_types.specs.Same.{same_global_type}
use Rattle.wasm_types.specs.declared.const_expr.ConstExpr.TheVariants as exprs
use Rattle.wasm_module.specs.declared.parts.ModuleGlobal.{ModuleGlobal}
use Rattle.run_rules.specs.declared.value.Value.{Value}
use Rattle.run_rules.specs.declared.session.Session.{Session}
use Rattle.run_rules.specs.Memory.{zeros, written}
use Rattle.run_rules.specs.Steps.{joined, function_at}
use Rattle.run_rules.specs.Modules.{same_cell, first, imported_globals, imported_memories, cell_of, most_pages, first_values, expr_value, cells_of, module_world, module_start, module_trace, first_pages, with_segments, at_first}
use Rattle.sim_laws.specs.Pairs.{Calls, Both, FunctionPairs, WorldPairs, Alike, CellsPair}
use Rattle.sim_laws.proofs.Together.{lockstep_law}
use Rattle.linking_section.specs.declared.symbol.SymbolKind.TheVariants.{Datum}
use Rattle.made_symbols.specs.declared.mode.Mode.TheVariants.{Plain}
use Rattle.name_rules.specs.Entries.{InputSymbol, ImportKey, SymbolType, of_function, of_global, untyped, same_import, same_symbol_type, is_kind}
use Rattle.live_mark.specs.Live.{ReachedLaw}
use Rattle.reloc_apply.specs.declared.window.Form.TheVariants.{Unsigned5}
use Rattle.reloc_apply.specs.Windows.{signed32, patch_of}
use Rattle.image_emit.specs.Bytes.{Block, source_bytes, block_of, data_bytes}
use Rattle.image_emit.specs.Filled.{blocks_filled}
use Rattle.image_emit.specs.Spelled.{segments as data_segments}
use Rattle.image_emit.specs.Stored.{put, first_address as first_block}
use Rattle.link_rules.specs.Program.{Program, Part, Ref, refs, TypeWindow, a_symbol, a_type, named_ref}
use Rattle.link_rules.specs.Marks.{live, refs_of}
use Rattle.link_rules.specs.Keys.{GlobalKey, outside, outside_global, linker_global, own_global, got, exported_datum, globals, defined_globals, used_globals, made_global_key, own_global_key, got_entries, datum_key, is_function_type, is_global_type, has_import, used_imports, imports_by, imports_in_order, function_number, ref_function, type_place}
use Rattle.link_rules.specs.Values.{Layout, solid_segments, windows}
use Rattle.link_rules.specs.Output.{layout, image, source_windows, imports, memory, first_address, placed_source, body_of, body_windows, defined, global_for}
use Rattle.link_worlds.specs.Names.{renaming, all_cells, callee, number_at, FunctionGets, RefGets}
use Rattle.link_worlds.specs.Worlds.{layout_of, world_by, start_by, plan_world, plan_start, plan_trace, module_by, linked_module, segment_block, zero_segments, pages_at_first, plan_memory, cell_value}
use Rattle.link_worlds.specs.Sound.{Sound}
use Rattle.link_worlds.specs.Statements.{LinkedBy, Holds, WorldsPair, StartsPair, RunsAgree}
use Rattle.link_worlds.proofs.Refs.{callee_pairs}
use Rattle.link_worlds.proofs.Cells.{cells_free}
use Rattle.link_worlds.proofs.Apart.{imports_apart, cells_apart}
use Rattle.link_worlds.proofs.Every.{in_range, ref_gets}
use Rattle.link_worlds.proofs.Functions.{stood, functions_pair}
use Rattle.link_worlds.proofs.Imports.{straight, memories_are, globals_are, imported_key, cell_import, global_type_of}
use Rattle.link_worlds.proofs.Spaces.{functions_are, global_typed}
use Rattle.link_worlds.proofs.Tables.{table_pairs}
use Rattle.link_worlds.proofs.Exports.{exports_pair}
use Rattle.link_worlds.proofs.Memory.{start_memory}
use Rattle.link_worlds.proofs.Start.{cells_pair, inner, defined_are, outer_none, imports_first, unsigned_again}

module _ (p : Program) (exports : List InputSymbol) (sound : Sound p) where
  abbrev parts : List Part
  parts = live p exports

  abbrev lay : Layout
  lay = layout Plain p (live p exports) exports

  abbrev ks : List ImportKey
  ks = used_globals Plain p (refs_of (live p exports))

  abbrev ds : List GlobalKey
  ds = defined_globals Plain (live p exports) exports

  -- ---- imported globals

  inner_defined : (k : GlobalKey) → Has ds k → inner k ≡ true
  inner_defined k h =
      let mades = filter_map made_global_key parts in
      let owns = filter_map own_global_key parts in
      let gots = map got (got_entries Plain parts) in
      let dates = filter_map datum_key exports in
      ⊎_elim
      (λ g. ⊎_elim
      (λ g. ⊎_elim
      (λ a. let r = has_pick made_global_key parts k a in ap inner (sym (given_some ((r.0.chunk.input == 0) && (r.0.chunk.kind == 2)) (linker_global r.0.chunk.index) k r.2).1))
      (λ a. let r = has_pick own_global_key parts k a in ap inner (sym (given_some (not (r.0.chunk.input == 0) && (r.0.chunk.kind == 2)) (own_global r.0.chunk.input r.0.chunk.index) k r.2).1))
      (has_either mades owns k g))
      (λ a. let r = has_map got (got_entries Plain parts) k a in ap inner (sym r.2))
      (has_either (mades ++ owns) gots k g))
      (λ a. let r = has_pick datum_key exports k a in ap inner (sym (given_some (is_kind Datum r.0) (exported_datum r.0) k r.2).1))
      (has_either (mades ++ owns ++ gots) dates k h)

  imported_are : (js : List ImportKey) (es : List GlobalKey) → ((k : GlobalKey) → Has es k → inner k ≡ true)
      → filter_map (imported_key p parts exports lay) (map outside_global js ++ es) ≡ map (cell_import p parts exports lay) js
  imported_are [] [] f = refl
  imported_are [] (outside_global k ∷ es) f = absurd (let e = f (outside_global k) (inl refl) in grind arith)
  imported_are [] (linker_global n ∷ es) f = imported_are [] es (λ k h. f k (inr h))
  imported_are [] (own_global i x ∷ es) f = imported_are [] es (λ k h. f k (inr h))
  imported_are [] (got k ∷ es) f = imported_are [] es (λ k h. f k (inr h))
  imported_are [] (exported_datum e ∷ es) f = imported_are [] es (λ k h. f k (inr h))
  imported_are (j ∷ js) es f = ap (λ xs. cell_import p parts exports lay j ∷ xs) (imported_are js es f)

  same_types : (t u : SymbolType) → is_global_type t ≡ true → is_global_type u ≡ true → same_global_type (global_type_of p parts exports lay t) (global_type_of p parts exports lay u) ≡ true → same_symbol_type t u ≡ true
  same_types (of_global a) (of_global b) h k e = e
  same_types (of_function a) u h k e = absurd (grind arith)
  same_types untyped u h k e = absurd (grind arith)
  same_types t (of_function a) h k e = absurd (grind arith)
  same_types t untyped h k e = absurd (grind arith)

  keys_apart : (js : List ImportKey) → Apart same_import js → ((k : ImportKey) → Has js k → is_global_type k.type ≡ true) → Apart same_cell (map (cell_import p parts exports lay) js)
  keys_apart [] a t = tt
  keys_apart (j ∷ js) a t = (
    (λ y h e.
        let r = has_map (cell_import p parts exports lay) js y h in
        let e' : same_cell (cell_import p parts exports lay j) (cell_import p parts exports lay r.0) ≡ true = ap (same_cell (cell_import p parts exports lay j)) r.2 ∙ e in
        let q = and_parts (bytes_eq j.module_name r.0.module_name && bytes_eq j.field r.0.field) (same_global_type (global_type_of p parts exports lay j.type) (global_type_of p parts exports lay r.0.type)) e' in
        a.0 r.0 r.1 (and_from (bytes_eq j.module_name r.0.module_name && bytes_eq j.field r.0.field) (same_symbol_type j.type r.0.type) q.0 (same_types j.type r.0.type (t j (inl refl)) (t r.0 (inr r.1)) q.1))),
    keys_apart js a.1 (λ k h. t k (inr h)),
  )

  used_typed : (k : ImportKey) → Has ks k → is_global_type k.type ≡ true
  used_typed k h =
      let test = λ (k : ImportKey). is_global_type k.type && has_import (used_imports (filter (imports_by Plain) (refs_of parts))) k in
      let f = has_filter test (imports_in_order p) k h in
      (and_parts (is_global_type k.type) (has_import (used_imports (filter (imports_by Plain) (refs_of parts))) k) f.1).0

  functions_typed : (k : ImportKey) → Has lay.numbers.functions (outside k) → is_function_type k.type ≡ true
  unfolding layout
  functions_typed k h = stood parts p (outside k) h

  globals_typed : (k : ImportKey) → Has lay.numbers.globals (outside_global k) → is_global_type k.type ≡ true
  unfolding layout
  globals_typed k h = global_typed p exports sound (outside_global k) h

  module_globals : imported_globals (imports Plain p parts exports lay) ≡ map (cell_import p parts exports lay) ks
  unfolding layout globals
  module_globals = globals_are p parts exports lay functions_typed globals_typed ∙ imported_are ks ds inner_defined

  abbrev cell : ℕ → ℕ
  cell = cell_of (imported_globals (imports Plain p parts exports lay))

  own_cells : (n : ℕ) → cell n ≡ n
  own_cells n =
      straight (imported_globals (imports Plain p parts exports lay))
      (subst (λ xs. Apart same_cell xs) (sym module_globals)
      (keys_apart ks (apart_filter same_import (λ (k : ImportKey). is_global_type k.type && has_import (used_imports (filter (imports_by Plain) (refs_of parts))) k) (imports_in_order p) (imports_apart p)) used_typed)) n

-- ---- the worlds

module _ (law : ReachedLaw) (s : Session) (p : Program) (exports : List InputSymbol) (lk : LinkedBy p exports (layout_of p exports)) where
  abbrev parts' : List Part
  parts' = live p exports

  abbrev lay' : Layout
  lay' = layout Plain p (live p exports) exports

  abbrev own_cell : ℕ → ℕ
  own_cell = cell_of (imported_globals (imports Plain p (live p exports) exports (layout Plain p (live p exports) exports)))

  listed : (part : Part) (ref : Ref) → Has part.named (a_symbol ref) → Has (refs part) ref
  listed part ref m = pick_has named_ref part.named (a_symbol ref) ref m refl

  gets : (part : Part) (ref : Ref) → Has parts' part → part.chunk.kind ≡ 0 → (part.chunk.input ≡ 0 → ⊥) → Has part.named (a_symbol ref) → RefGets p lay' ref
  gets part ref h k z m = ref_gets p exports part ref lk.sound lk.resolved h (listed part ref m) law (lk.in_range part (a_symbol ref) h k z m)

  called : (part : Part) (ref : Ref) → Has parts' part → part.chunk.input ≡ 0 → Has (refs part) ref → FunctionGets (renaming p lay') (callee p ref) (function_number lay'.numbers (ref_function ref))
  called part ref h z r = callee_pairs law p exports lk.sound part ref lk.resolved h r (lk.calls part ref h z r)

  numbered : (part : Part) (w : TypeWindow) → Has parts' part → part.chunk.kind ≡ 0 → (part.chunk.input ≡ 0 → ⊥) → Has part.named (a_type w) → number_at lay' (a_type w) ≡ type_place lay'.numbers w.type
  numbered part w h k z m = in_range w.place (type_place lay'.numbers w.type) Unsigned5 (lk.in_range part (a_type w) h k z m)

  memory_same : Some (unwrap_or (option_map (λ n. n / 65536) p.plan.max_memory) 65536)
      ≡ option_map most_pages (first (imported_memories (imports Plain p parts' exports lay') ++ cond p.plan.import_memory [] (memory Plain p parts' exports lay' ∷ [])))
  memory_same = onto p.plan.import_memory ∙ ap (λ ms. option_map most_pages (first (ms ++ cond p.plan.import_memory [] (memory Plain p parts' exports lay' ∷ [])))) (sym (memories_are p parts' exports lay'))
    where
      onto : (b : Bool) → Some (unwrap_or (option_map (λ n. n / 65536) p.plan.max_memory) 65536)
          ≡ option_map most_pages (first (cond b (memory Plain p parts' exports lay' ∷ []) [] ++ cond b [] (memory Plain p parts' exports lay' ∷ [])))
      onto true = refl
      onto false = refl

  functions_both : (f g : ℕ) → Calls (renaming p lay') f g → Both (FunctionPairs (renaming p lay')) (function_at (world_by p lay' exports) f) (function_at (module_world s (module_by p parts' exports lay')) g)
  unfolding world_by module_world module_by image
  functions_both f g h =
      subst (λ fs. Both (FunctionPairs (renaming p lay')) (function_at (world_by p lay' exports) f) (joined (slice_get fs g)))
      (sym (functions_are p exports lk.sound own_cell (own_cells p exports lk.sound)))
      (functions_pair p exports lk.sound own_cell (own_cells p exports lk.sound) gets called numbered lk.shaped f g h)

  pub worlds : WorldPairs (renaming p lay') (world_by p lay' exports) (module_world s (module_by p parts' exports lay'))
  unfolding world_by module_world module_by image
  worlds = record {
    functions = functions_both;
    table = table_pairs p exports lk.sound (first_values s (imported_globals (imports Plain p parts' exports lay')));
    exports = exports_pair law p exports lk.sound lk.exported own_cell (own_cells p exports lk.sound);
    memory = memory_same;
    apart = cells_apart p lay' lk.sound;
    free = cells_free p lay';
  }

  -- ---- at first

  abbrev firsts : List Value
  firsts = first_values s (imported_globals (imports Plain p (live p exports) exports (layout Plain p (live p exports) exports)))

  abbrev valued : ModuleGlobal → Option Value
  valued g = expr_value firsts g.value

  cells_are : cells_of firsts (filter_map (global_for Plain p parts' exports lay') lay'.numbers.globals) ≡ map (cell_value s parts' lay') (globals Plain p parts' exports)
  unfolding layout globals
  cells_are =
      let js = used_globals Plain p (refs_of parts') in
      let es = defined_globals Plain parts' exports in
      let own_in : (k : GlobalKey) → Has es k → (inner k ≡ true) × Has (map outside_global js ++ es) k = λ k h. (inner_defined p exports lk.sound k h, has_right (map outside_global js) es k h) in
      ap (λ xs. map Some (first_values s xs) ++ map valued (filter_map (global_for Plain p parts' exports lay') (map outside_global js ++ es))) (globals_are p parts' exports lay' (functions_typed p exports lk.sound) (globals_typed p exports lk.sound))
      ∙ ap (λ xs. xs ++ map valued (filter_map (global_for Plain p parts' exports lay') (map outside_global js ++ es))) (imports_first s p exports lk.sound firsts lk.constants lk.small js es (inner_defined p exports lk.sound))
      ∙ ap (λ xs. map (cell_value s parts' lay') (map outside_global js) ++ map valued xs) (outer_none s p exports lk.sound firsts lk.constants lk.small js es)
      ∙ ap (λ xs. map (cell_value s parts' lay') (map outside_global js) ++ xs) (defined_are s p exports lk.sound firsts lk.constants lk.small es own_in)
      ∙ sym (map-append (cell_value s parts' lay') (map outside_global js) es)

  blocks_by : (xs : List Part) → blocks_filled (map (map patch_of) (map (windows Plain lay') xs)) (map (block_of p.files) (map (placed_source Plain p parts' exports lay') xs)) ≡ map (segment_block p lay') xs
  blocks_by [] = refl
  blocks_by (x ∷ xs) = ap (λ bs. segment_block p lay' x ∷ bs) (blocks_by xs)

  dropped : {A B C D E : Type 0} (f : B → C) (g : A → B) (h : D → E) (k : A → D) (as' : List A) (ws : List D) → drop (length (map f (map g as'))) (map h (map k as' ++ ws)) ≡ map h ws
  dropped f g h k [] ws = refl
  dropped f g h k (x ∷ xs) ws = dropped f g h k xs ws

  first_same : (xs : List Part) → first_address Plain p parts' exports lay' xs ≡ first_block (map (segment_block p lay') xs)
  first_same [] = refl
  first_same (x ∷ xs) = refl

  segments_put : (bs : List Block) (m : List ℕ) → first_block bs < 2 ^ 32 → with_segments firsts (data_segments (exprs.I32 (signed32 (first_block bs))) bs) m ≡ put (first_block bs) (data_bytes bs) m
  unfolding written
  segments_put [] m h = refl
  segments_put (b ∷ bs) m h = ap (λ n. put n (data_bytes (b ∷ bs)) m) (unsigned_again b.address h)

  pages_same : pages_at_first s p lay' ≡ first_pages s (imported_memories (imports Plain p parts' exports lay')) (cond p.plan.import_memory [] (memory Plain p parts' exports lay' ∷ []))
  pages_same = onto p.plan.import_memory ∙ ap (λ ms. first_pages s ms (cond p.plan.import_memory [] (memory Plain p parts' exports lay' ∷ []))) (sym (memories_are p parts' exports lay'))
    where
      onto : (b : Bool) → cond b (unwrap_or s.pages lay'.places.pages) lay'.places.pages ≡ first_pages s (cond b (memory Plain p parts' exports lay' ∷ []) []) (cond b [] (memory Plain p parts' exports lay' ∷ []))
      onto true = refl
      onto false = refl

  module _ (holds : Holds s p exports (layout_of p exports)) where
    abbrev solid : List Part
    solid = solid_segments p (live p exports)

    memory_as : plan_memory s p lay' parts'
        ≡ with_segments firsts (data_segments (exprs.I32 (signed32 (first_address Plain p parts' exports lay' solid)))
        (blocks_filled (drop (length (map (source_bytes p.files) (map (body_of Plain p parts' exports lay') (defined Plain p parts' exports lay')))) (map (map patch_of) (map (body_windows Plain p parts' exports lay') (defined Plain p parts' exports lay') ++ map (windows Plain lay') solid)))
        (map (block_of p.files) (map (placed_source Plain p parts' exports lay') solid))))
        (zeros (first_pages s (imported_memories (imports Plain p parts' exports lay')) (cond p.plan.import_memory [] (memory Plain p parts' exports lay' ∷ []))))
    memory_as =
        let bs = map (segment_block p lay') solid in
        start_memory bs (map (segment_block p lay') (zero_segments p parts')) (65536 * pages_at_first s p lay') holds.rises holds.zeros
        ∙ sym (segments_put bs (zeros (pages_at_first s p lay')) holds.low)
        ∙ ap (λ a. with_segments firsts (data_segments (exprs.I32 (signed32 a)) bs) (zeros (pages_at_first s p lay'))) (sym (first_same solid))
        ∙ ap (λ cs. with_segments firsts (data_segments (exprs.I32 (signed32 (first_address Plain p parts' exports lay' solid))) cs) (zeros (pages_at_first s p lay')))
        (sym (ap (λ pss. blocks_filled pss (map (block_of p.files) (map (placed_source Plain p parts' exports lay') solid)))
        (dropped (source_bytes p.files) (body_of Plain p parts' exports lay') (map patch_of) (body_windows Plain p parts' exports lay') (defined Plain p parts' exports lay') (map (windows Plain lay') solid))
        ∙ blocks_by solid))
        ∙ ap (λ n. with_segments firsts (data_segments (exprs.I32 (signed32 (first_address Plain p parts' exports lay' solid)))
        (blocks_filled (drop (length (map (source_bytes p.files) (map (body_of Plain p parts' exports lay') (defined Plain p parts' exports lay')))) (map (map patch_of) (map (body_windows Plain p parts' exports lay') (defined Plain p parts' exports lay') ++ map (windows Plain lay') solid)))
        (map (block_of p.files) (map (placed_source Plain p parts' exports lay') solid)))) (zeros n)) pages_same

    pub starts : Alike (renaming p lay') (start_by s p lay' parts') (module_start s (module_by p parts' exports lay'))
    unfolding start_by module_start module_by image source_windows
    starts = record {
      names = tt;
      cells = subst (λ cs. CellsPair (renaming p lay') (map (cell_value s p.parts lay') (all_cells p)) cs) (sym cells_are) (cells_pair s p exports lk.sound);
      inner = ap (λ m. (at_first [] m).inner) memory_as;
    }

    pub runs : (n : ℕ) → plan_trace s p exports n ≡ module_trace s (linked_module p exports) n
    unfolding plan_trace plan_world plan_start module_trace
    runs n = lockstep_law (renaming p lay') (world_by p lay' exports) (module_world s (module_by p parts' exports lay')) s (start_by s p lay' parts') (module_start s (module_by p parts' exports lay')) n worlds starts

pub worlds_law : ReachedLaw → WorldsPair
worlds_law law s p exports lk = worlds law s p exports lk

pub starts_law : ReachedLaw → StartsPair
starts_law law s p exports lk holds = starts law s p exports lk holds

pub runs_law : ReachedLaw → RunsAgree
runs_law law s p exports n lk holds = runs law s p exports lk holds n
