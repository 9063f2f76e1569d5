-- The world of the loaded objects and that of the output's module pair, and begin alike.
use Rattle.std.proofs.Common.{◌≡◌, ℕ, List, [], ◌∷◌, ◌++◌, length, map, drop, replicate, Option, Some, None, Bool, refl, sym, ap, ◌∙◌, subst, arith}
use Rattle.std.specs.Prelude.{◌*◌, ◌==◌, true, false, not, slice_get, filter_map, option_map, unwrap_or, codes}
use Rattle.std.proofs.lemmas.Bool.{eqb-true}
use Rattle.list_places.specs.Has.{Has}
use Rattle.list_places.proofs.Lists.{has_at, has_right, second_of, has_filter, map_has, pick_has}
use Rattle.wasm_types.specs.declared.value.ValType.TheVariants as types
use Rattle.wasm_types.specs.declared.const_expr.ConstExpr.TheVariants as exprs
use Rattle.wasm_instr.specs.declared.instr.Instr.TheVariants as instrs
use Rattle.run_rules.specs.declared.op.Op.TheVariants.{Own}
use Rattle.run_rules.specs.declared.value.Value.{Value}
use Rattle.run_rules.specs.declared.world.Source.TheVariants.{Code}
use Rattle.run_rules.specs.declared.session.Session.{Session}
use Rattle.run_rules.specs.Memory.{zeros}
use Rattle.run_rules.specs.Ops.{op_of}
use Rattle.run_rules.specs.Steps.{joined, function_at}
use Rattle.run_rules.specs.Modules.{first, imported_globals, imported_memories, imported_tables, cell_of as cell_in, cells_of, coded, first_values, first_pages, most_pages, with_elements, with_segments, module_world, module_start, at_first}
use Rattle.sim_laws.specs.Pairs.{Renaming, Calls, Both, Each, SourcePairs, FunctionPairs, WorldPairs, Alike, CellsPair}
use Rattle.sim_laws.proofs.Together.{lockstep_law}
use Rattle.made_symbols.specs.declared.mode.Mode.TheVariants.{Shared}
use Rattle.name_rules.specs.Entries.{InputSymbol, ImportKey, of_global}
use Rattle.name_rules.specs.Meanings.{cell_of}
use Rattle.live_mark.specs.Live.{ReachedLaw}
use Rattle.reloc_apply.specs.declared.window.Form.TheVariants.{Unsigned5}
use Rattle.reloc_apply.specs.Windows.{patch_of}
use Rattle.image_emit.specs.Bytes.{Block, source_bytes, block_of}
use Rattle.image_emit.specs.Filled.{blocks_filled}
use Rattle.image_emit.specs.Spelled.{segments as data_segments}
use Rattle.image_emit.specs.Stored.{stored}
use Rattle.link_rules.specs.Program.{Program, Part, Ref, refs, TypeWindow, a_symbol, a_type, named_ref}
use Rattle.link_rules.specs.Marks.{live, is_foreign}
use Rattle.link_rules.specs.Keys.{GotKey, outside_global, got, globals, global_imports_in, own_global_key, got_entries, datum_key, same_global, function_number, global_number, ref_function, type_place}
use Rattle.link_rules.specs.Values.{Layout, segments, solid_segments, is_zero, slot_count, windows}
use Rattle.link_rules.specs.Loader.{words, cell_number}
use Rattle.link_rules.specs.Output.{layout, image, source_windows, imports, elements, global_for, held_as, placed_source, body_of, body_windows, defined}
use Rattle.link_worlds.specs.Names.{callee, number_in, FunctionGets, CellGets}
use Rattle.link_worlds.specs.Worlds.{zero_segments}
use Rattle.link_worlds.proofs.Every.{in_range}
use Rattle.link_worlds.proofs.Keys.{globals_same}
use Rattle.link_worlds.proofs.Memory.{start_memory}
use Rattle.shared_module.specs.Applied.{applied}
use Rattle.shared_module.specs.Outputs.{shared_by, shared_module}
use Rattle.shared_types.specs.Linked.{SharedLinkedBy}
use Rattle.shared_worlds.specs.Placing.{Placing, memory_base_name, table_base_name, memory_base, table_base, first_entries, placed_world, placed_trace}
use Rattle.shared_worlds.specs.Names.{all_cells, cell_place, renaming}
use Rattle.shared_worlds.specs.Bodies.{stores_all}
use Rattle.shared_worlds.specs.Worlds.{objects_table, objects_by, objects_start_by, objects_trace, objects_value, block_at, blocks_of, pages_given}
use Rattle.shared_worlds.specs.Statements.{IsLoadable, Holds, SharedWorldsPair, SharedStartsPair, SharedRunsAgree}
use Rattle.shared_worlds.proofs.Lists.{itself}
use Rattle.shared_worlds.proofs.Cells.{cells_free, cells_apart}
use Rattle.shared_worlds.proofs.Gets.{RefGets, callee_gets, cell_gets, ref_gets}
use Rattle.shared_worlds.proofs.Applied.{applied_pairs}
use Rattle.shared_worlds.proofs.Functions.{functions_pair}
use Rattle.shared_worlds.proofs.Modules.{tables_are, memories_are, globals_are, own_cells, functions_are}
use Rattle.shared_worlds.proofs.Tables.{table_pairs}
use Rattle.shared_worlds.proofs.Exports.{exports_pair}
use Rattle.shared_worlds.proofs.Start.{cells_pair, cells_are}
use Rattle.shared_worlds.proofs.Bases.{number_of, base_given}
use Rattle.shared_worlds.proofs.Memory.{memory_is}

-- a base, as it is imported
abbrev base_import : List ℕ → ImportKey
base_import name = record { module_name = codes "env"; field = name; type = of_global (record { kind = types.I32; var = false }) }

module _ (law : ReachedLaw) (p : Program) (exports : List InputSymbol) (ready : IsLoadable p exports) where
  abbrev lk : SharedLinkedBy p exports
  lk = ready.linked

  abbrev parts : List Part
  parts = live p exports

  abbrev lay : Layout
  lay = layout Shared p (live p exports) exports

  abbrev ren : Renaming
  ren = renaming p (layout Shared p (live p exports) exports)

  abbrev cell : ℕ → ℕ
  cell = cell_in (imported_globals (imports Shared p (live p exports) exports (layout Shared p (live p exports) exports)))

  straight : (n : ℕ) → cell n ≡ n
  straight = own_cells p exports lk

  -- ---- functions

  listed : (part : Part) (ref : Ref) → Has part.named (a_symbol ref) → Has (refs part) ref
  listed part ref m = pick_has named_ref part.named (a_symbol ref) ref m refl

  gets : (part : Part) (ref : Ref) → Has parts part → part.chunk.kind ≡ 0 → (part.chunk.input ≡ 0 → ⊥) → Has part.named (a_symbol ref) → RefGets p lay ref
  gets part ref h k z m = ref_gets law p exports lk part ref h (listed part ref m) (lk.in_range part (a_symbol ref) h k z m) k (ready.addressed part ref h k z m)

  called : (part : Part) (ref : Ref) → Has parts part → part.chunk.input ≡ 0 → Has (refs part) ref → FunctionGets ren (callee p ref) (function_number lay.numbers (ref_function ref))
  called part ref h z r = callee_gets law p exports lk part ref h r (lk.calls part ref h z r)

  numbered : (part : Part) (w : TypeWindow) → Has parts part → part.chunk.kind ≡ 0 → (part.chunk.input ≡ 0 → ⊥) → Has part.named (a_type w) → number_in Shared lay (a_type w) ≡ type_place lay.numbers w.type
  numbered part w h k z m = in_range w.place (type_place lay.numbers w.type) Unsigned5 (lk.in_range part (a_type w) h k z m)

  -- ---- what the function that makes addresses right reads and sets

  import_gets : (n : ℕ) (k : ImportKey) → slice_get lay.numbers.globals n ≡ Some (outside_global k) → CellGets ren (cell_place p (outside_global k)) n
  unfolding layout
  import_gets n k h =
      let key = outside_global k in
      let there = itself same_global globals_same (globals Shared p parts exports) key (has_at (globals Shared p parts exports) n key h) in
      subst (CellGets ren (cell_place p key)) (number_of p exports lk n k h) (cell_gets law p exports lk key tt there)

  foreign_gets : (x : Part) (ref : Ref) → Has (solid_segments p parts) x → Has (refs x) ref → is_foreign ref ≡ true → CellGets ren (cell_place p (outside_global (cell_of ref.entry))) (cell_number Shared p parts lay ref)
  foreign_gets x ref h r f =
      let a = has_filter (λ (y : Part). not (is_zero p y)) (segments parts) x h in
      let b = has_filter (λ (y : Part). y.chunk.kind == 1) parts x a.0 in
      import_gets (cell_number Shared p parts lay ref) (cell_of ref.entry) (ready.foreign x ref b.0 (eqb-true x.chunk.kind 1 b.1) r f)

  got_gets : (key : GotKey) → Has (got_entries Shared parts) key → CellGets ren (cell_place p (got key)) (global_number lay.numbers (got key))
  unfolding globals
  got_gets key h =
      let owns = filter_map own_global_key parts in
      let gots = map got (got_entries Shared parts) in
      let dates = filter_map datum_key exports in
      let there : Has (globals Shared p parts exports) (got key) = has_right (map outside_global (global_imports_in Shared p parts)) (owns ++ gots ++ dates) (got key) (second_of owns gots dates (got key) (map_has got (got_entries Shared parts) key h)) in
      cell_gets law p exports lk (got key) tt (itself same_global globals_same (globals Shared p parts exports) (got key) there)

  applies : SourcePairs ren (Code [] (stores_all p lay parts ++ Own (instrs.Plain 0x0B) ∷ [])) (coded (op_of lay.numbers.types cell) (applied (words Shared p parts lay)))
  unfolding layout
  applies =
      applied_pairs p lay lay.numbers.types cell straight
      (import_gets 1 (base_import memory_base_name) ready.memory_base) (import_gets 2 (base_import table_base_name) ready.table_base)
      parts exports refl foreign_gets got_gets

  -- ---- the worlds

  module _ (x : Placing) where
    abbrev s : Session
    s = x.session

    functions_both : (f g : ℕ) → Calls ren f g → Both (FunctionPairs ren) (function_at (objects_by x p parts exports lay) f) (function_at (placed_world x (shared_by p parts exports lay)) g)
    unfolding objects_by placed_world module_world shared_by image
    functions_both f g h =
        subst (λ fs. Both (FunctionPairs ren) (function_at (objects_by x p parts exports lay) f) (joined (slice_get fs g)))
        (sym (functions_are p exports lk cell straight))
        (functions_pair p exports lk cell straight gets called numbered applies f g h)

    abbrev firsts : List Value
    firsts = first_values x.session (imported_globals (imports Shared p (live p exports) exports (layout Shared p (live p exports) exports)))

    table_both : Both (Each (Both (Calls ren))) (Some (objects_table x p lay))
        (option_map (λ n. with_elements firsts (elements Shared p parts exports lay) (replicate n None)) (first_entries x.entries (imported_tables (imports Shared p parts exports lay)) []))
    table_both =
        subst (λ ts. Both (Each (Both (Calls ren))) (Some (objects_table x p lay)) (option_map (λ n. with_elements firsts (elements Shared p parts exports lay) (replicate n None)) (first_entries x.entries ts [])))
        (sym (tables_are p exports lk))
        (table_pairs law p exports lk firsts (table_base s) (unwrap_or x.entries (slot_count lay)) (base_given p exports lk s 2 table_base_name ready.table_base))

    memory_same : Some 65536 ≡ option_map most_pages (first (imported_memories (imports Shared p parts exports lay) ++ []))
    memory_same = ap (λ ms. option_map most_pages (first (ms ++ []))) (sym (memories_are p exports lk))

    pub worlds : WorldPairs ren (objects_by x p parts exports lay) (placed_world x (shared_by p parts exports lay))
    unfolding objects_by placed_world module_world shared_by image
    worlds = record {
      functions = functions_both;
      table = table_both;
      exports = exports_pair law p exports lk cell straight;
      memory = memory_same;
      apart = cells_apart p lay lk.sound;
      free = cells_free p lay;
    }

  -- ---- at first

  module _ (s : Session) (holds : Holds s p exports) where
    abbrev given : List Value
    given = first_values s (imported_globals (imports Shared p (live p exports) exports (layout Shared p (live p exports) exports)))

    cells_both : cells_of given (filter_map (global_for Shared p parts exports lay) lay.numbers.globals) ≡ map (objects_value s parts lay) (globals Shared p parts exports)
    cells_both = ap (λ xs. cells_of (first_values s xs) (filter_map (global_for Shared p parts exports lay) lay.numbers.globals)) (globals_are p exports lk) ∙ cells_are s p exports lk ready.small

    abbrev blocks : List Block
    blocks = blocks_filled (drop (length (map (source_bytes p.files) (map (body_of Shared p parts exports lay) (defined Shared p parts exports lay))))
        (map (map patch_of) (map (map (λ w. held_as w.form w)) (map (body_windows Shared p parts exports lay) (defined Shared p parts exports lay) ++ map (windows Shared lay) (solid_segments p parts)))))
        (map (block_of p.files) (map (placed_source Shared p parts exports lay) (solid_segments p parts)))

    memory_both : stored (blocks_of s p parts lay) (zeros (pages_given s lay)) ≡ with_segments given (data_segments (exprs.Get 1) blocks) (zeros (first_pages s (imported_memories (imports Shared p parts exports lay)) []))
    memory_both =
        let end = 65536 * pages_given s lay in
        memory_is p parts exports lay s given (base_given p exports lk s 1 memory_base_name ready.memory_base) end
        (start_memory (map (block_at (memory_base s) p lay) (solid_segments p parts)) (map (block_at (memory_base s) p lay) (zero_segments p parts)) end holds.rises holds.zeros)
        ready.starts
        ∙ ap (λ ms. with_segments given (data_segments (exprs.Get 1) blocks) (zeros (first_pages s ms []))) (sym (memories_are p exports lk))

    pub starts : Alike ren (objects_start_by s p parts lay) (module_start s (shared_by p parts exports lay))
    unfolding objects_start_by module_start shared_by image source_windows
    starts = record {
      names = tt;
      cells = subst (λ cs. CellsPair ren (map (objects_value s p.parts lay) (all_cells p)) cs) (sym cells_both) (cells_pair s p exports lk);
      inner = ap (λ m. (at_first [] m).inner) memory_both;
    }

  pub runs : (x : Placing) → Holds x.session p exports → (n : ℕ) → objects_trace x p exports n ≡ placed_trace x (shared_module p exports) n
  unfolding objects_trace placed_trace
  runs x holds n = lockstep_law ren (objects_by x p parts exports lay) (placed_world x (shared_by p parts exports lay)) x.session (objects_start_by x.session p parts lay) (module_start x.session (shared_by p parts exports lay)) n (worlds x) (starts x.session holds)

pub worlds_law : ReachedLaw → SharedWorldsPair
worlds_law law x p exports ready = worlds law p exports ready x

pub starts_law : ReachedLaw → SharedStartsPair
starts_law law s p exports ready holds = starts law p exports ready s holds

pub runs_law : ReachedLaw → SharedRunsAgree
runs_law law x p exports n ready holds = runs law p exports ready x holds n
