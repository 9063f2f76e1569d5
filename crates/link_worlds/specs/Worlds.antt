-- The world of plan and files, with nothing linked; and the output as a module. Of the layout the first takes what a program can tell of
-- it, and no byte of the output: the addresses of segments, the slots of functions, and what the linker's own cells hold.
use Rattle.std.specs.Prelude.{ℕ, ◌/◌, ◌==◌, ◌&&◌, not, List, [], ◌∷◌, ◌++◌, map, filter, find, if◌then◌else◌, Option, Some, None, option_map, unwrap_or}
use Rattle.wasm_types.specs.declared.value.ValType.{ValType}
use Rattle.wasm_types.specs.declared.value.ValType.TheVariants as types
use Rattle.wasm_instr.specs.declared.body.Body.{Body}
use Rattle.wasm_module.specs.declared.structure.Module.{Module}
use Rattle.linking_section.specs.declared.symbol.SymbolKind.{SymbolKind}
use Rattle.linking_section.specs.declared.symbol.SymbolKind.TheVariants.{Function, Datum, GlobalVar, Section, Table}
use Rattle.made_symbols.specs.declared.mode.Mode.TheVariants.{Plain}
use Rattle.name_rules.specs.Entries.{InputSymbol, SymbolType, of_function, of_global, untyped}
use Rattle.reloc_apply.specs.Windows.{filled, patch_of}
use Rattle.image_emit.specs.Bytes.{Tree, Block, tree_of}
use Rattle.image_emit.specs.Filled.{tree_filled}
use Rattle.image_emit.specs.Spelled.{module_with}
use Rattle.image_emit.specs.Stored.{stored}
use Rattle.run_rules.specs.declared.value.Value.{Value}
use Rattle.run_rules.specs.declared.value.Value.TheVariants as values
use Rattle.run_rules.specs.declared.world.Function.{Function as Runs}
use Rattle.run_rules.specs.declared.world.Target.{Target}
use Rattle.run_rules.specs.declared.world.Target.TheVariants.{ToFunction, ToCell, ToNumber, Elsewhere}
use Rattle.run_rules.specs.declared.world.Exported.{Exported}
use Rattle.run_rules.specs.declared.world.World.{World}
use Rattle.run_rules.specs.declared.state.State.{State}
use Rattle.run_rules.specs.declared.session.Session.{Session}
use Rattle.run_rules.specs.declared.trace.Trace.{Trace}
use Rattle.run_rules.specs.Memory.{zeros}
use Rattle.run_rules.specs.Runs.{trace_of}
use Rattle.run_rules.specs.Modules.{first_value, expr_value, at_first}
use Rattle.link_rules.specs.Program.{Program, Part, Content, function, segment, global, linker_made}
use Rattle.link_rules.specs.Marks.{live, export_name, memory_name}
use Rattle.link_rules.specs.Keys.{FunctionKey, GlobalKey, outside_global, linker_global, own_global, got, exported_datum, function_of, global_of, type_of}
use Rattle.link_rules.specs.Values.{Layout, part_bytes, segments, solid_segments, is_zero, segment_address, address_of, got_value, made_global_value, windows}
use Rattle.link_rules.specs.Output.{layout, image, source_windows, is_import}
use Rattle.link_worlds.specs.Names.{all_functions, all_cells, function_place, cell_place}
use Rattle.link_worlds.specs.Bodies.{plan_source, linked_source}

-- ---- functions, table, exports

abbrev pub plan_function : Program → Layout → FunctionKey → Option Runs
plan_function p l k = Some (record { kind = type_of p p.parts k; source = plan_source p l p.parts k })

-- The slots by the layout, slot 0 null.
abbrev pub plan_table : Program → Layout → List (Option ℕ)
plan_table p l = None ∷ map (function_place p) l.numbers.slots

abbrev pub target_by : (ℕ → Target) → Option ℕ → Target
target_by f None = Elsewhere
target_by f (Some n) = f n

-- An exported datum is a number, its address.
abbrev pub plan_target : Program → Layout → InputSymbol → SymbolKind → Target
plan_target p l e Function = target_by ToFunction (function_place p (function_of e))
plan_target p l e Datum = ToNumber (address_of Plain l e)
plan_target p l e GlobalVar = target_by ToCell (cell_place p (global_of Plain e))
plan_target p l e Section = Elsewhere
plan_target p l e Table = Elsewhere

abbrev pub plan_export : Program → Layout → InputSymbol → Exported
plan_export p l e = record { name = export_name p e; target = plan_target p l e e.symbol.kind }

abbrev pub plan_exports : Program → Layout → List InputSymbol → List Exported
plan_exports p l exports =
    (if p.plan.import_memory then [] else record { name = memory_name; target = Elsewhere } ∷ [])
    ++ map (plan_export p l) exports

unfoldable pub world_by : Program → Layout → List InputSymbol → World
world_by p l exports = record {
  functions = map (plan_function p l) (all_functions p);
  table = Some (plan_table p l);
  exports = plan_exports p l exports;
  memory = Some (unwrap_or (option_map (λ n. n / 65536) p.plan.max_memory) 65536);
}

-- ---- cells at first

abbrev pub global_kind : SymbolType → ValType
global_kind (of_function t) = types.I32
global_kind (of_global g) = g.kind
global_kind untyped = types.I32

abbrev pub content_value : Content → Option Value
content_value (function t) = None
content_value (segment info) = None
content_value (global g) = expr_value [] g.value
content_value (linker_made m) = None

abbrev pub part_value : Option Part → Option Value
part_value None = None
part_value (Some part) = content_value part.content

-- The first value of a cell: what the session gives an import, what an object's global is written with, or what the linker's
-- own has by the layout.
abbrev pub cell_value : Session → List Part → Layout → GlobalKey → Option Value
cell_value s parts l (outside_global k) = Some (first_value s k.module_name k.field (global_kind k.type))
cell_value s parts l (linker_global n) = Some (values.I32 (made_global_value l n))
cell_value s parts l (own_global input index) = part_value (find (λ part. (part.chunk.kind == 2) && (part.chunk.input == input) && (part.chunk.index == index)) parts)
cell_value s parts l (got k) = Some (values.I32 (got_value Plain l k))
cell_value s parts l (exported_datum e) = Some (values.I32 (address_of Plain l e))

-- ---- memory at first

-- A live segment at its address, with its windows filled.
abbrev pub segment_block : Program → Layout → Part → Block
segment_block p l part = record { address = segment_address l part.chunk; bytes = filled (map patch_of (windows Plain l part)) (part_bytes p part) }

-- The segments that are zero, by rising address; they come behind the others.
abbrev pub zero_segments : Program → List Part → List Part
zero_segments p parts = filter (is_zero p) (segments parts)

abbrev pub pages_at_first : Session → Program → Layout → ℕ
pages_at_first s p l = if p.plan.import_memory then unwrap_or s.pages l.places.pages else l.places.pages

abbrev pub plan_memory : Session → Program → Layout → List Part → List ℕ
plan_memory s p l parts =
    stored (map (segment_block p l) (solid_segments p parts) ++ map (segment_block p l) (zero_segments p parts)) (zeros (pages_at_first s p l))

unfoldable pub start_by : Session → Program → Layout → List Part → State
start_by s p l parts = at_first (map (cell_value s p.parts l) (all_cells p)) (plan_memory s p l parts)

-- ---- the trace of plan and files, under the layout of the link

abbrev pub layout_of : Program → List InputSymbol → Layout
layout_of p exports = layout Plain p (live p exports) exports

unfoldable pub plan_world : Program → List InputSymbol → World
plan_world p exports = world_by p (layout_of p exports) exports

unfoldable pub plan_start : Session → Program → List InputSymbol → State
plan_start s p exports = start_by s p (layout_of p exports) (live p exports)

unfoldable pub plan_trace : Session → Program → List InputSymbol → ℕ → Trace
plan_trace s p exports n = trace_of (plan_world p exports) s (plan_start s p exports) n

-- ---- the output as a module

abbrev pub linked_bodies : Program → List Part → List InputSymbol → Layout → List Body
linked_bodies p parts exports l = map (linked_source p l parts) (filter (λ f. not (is_import Plain p parts exports l f)) l.numbers.functions)

-- The output's tree, each window written.
abbrev pub linked_tree : Program → List Part → List InputSymbol → Layout → Tree
linked_tree p parts exports l = tree_filled (map (map patch_of) (source_windows Plain p parts exports l)) (tree_of p.files (image Plain p parts exports l))

unfoldable pub module_by : Program → List Part → List InputSymbol → Layout → Module
module_by p parts exports l = module_with (linked_bodies p parts exports l) (linked_tree p parts exports l)

-- The output, with its bodies as instructions.
abbrev pub linked_module : Program → List InputSymbol → Module
linked_module p exports = module_by p (live p exports) exports (layout_of p exports)
