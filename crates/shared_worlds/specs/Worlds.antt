-- The world of loaded objects with nothing linked, for a shared output that a loader places (DynamicLinking.md). Of the layout it takes the offsets of
-- segments from the memory's base and the places of functions in the table, and no number of the output.
use Rattle.std.specs.Prelude.{ℕ, ◌+◌, ◌/◌, List, ◌++◌, take, drop, map, find, replicate, Option, Some, None, unwrap_or}
use Rattle.linking_section.specs.declared.symbol.SymbolKind.{SymbolKind}
use Rattle.linking_section.specs.declared.symbol.SymbolKind.TheVariants.{Function, Datum, GlobalVar, Section, Table}
use Rattle.made_symbols.specs.declared.mode.Mode.TheVariants.{Shared}
use Rattle.memory_layout.specs.Memory.{up}
use Rattle.name_rules.specs.Entries.{InputSymbol}
use Rattle.reloc_apply.specs.Windows.{filled, patch_of}
use Rattle.image_emit.specs.Bytes.{Block}
use Rattle.image_emit.specs.Stored.{stored}
use Rattle.run_rules.specs.declared.value.Value.{Value}
use Rattle.run_rules.specs.declared.value.Value.TheVariants as values
use Rattle.run_rules.specs.declared.world.Function.{Function as Runs}
use Rattle.run_rules.specs.declared.world.Target.{Target}
use Rattle.run_rules.specs.declared.world.Target.TheVariants.{ToFunction, ToCell, ToNumber, Elsewhere}
use Rattle.run_rules.specs.declared.world.Exported.{Exported}
use Rattle.run_rules.specs.declared.world.World.{World}
use Rattle.run_rules.specs.declared.state.State.{State}
use Rattle.run_rules.specs.declared.session.Session.{Session}
use Rattle.run_rules.specs.declared.trace.Trace.{Trace}
use Rattle.run_rules.specs.Memory.{zeros}
use Rattle.run_rules.specs.Runs.{trace_of}
use Rattle.run_rules.specs.Modules.{first_value, at_first}
use Rattle.link_rules.specs.Program.{Program, Part}
use Rattle.link_rules.specs.Marks.{live, export_name}
use Rattle.link_rules.specs.Keys.{FunctionKey, GlobalKey, outside_global, linker_global, own_global, got, exported_datum, function_of, global_of, type_of}
use Rattle.link_rules.specs.Values.{Layout, part_bytes, solid_segments, segment_address, address_of, slot_count, windows}
use Rattle.link_rules.specs.Output.{held_as}
use Rattle.link_worlds.specs.Names.{all_functions, function_place}
use Rattle.link_worlds.specs.Worlds.{target_by, global_kind, part_value, zero_segments}
use Rattle.output_types.specs.Types.{is_global_at}
use Rattle.shared_module.specs.Outputs.{shared_lay}
use Rattle.shared_worlds.specs.Placing.{Placing, memory_base, table_base}
use Rattle.shared_worlds.specs.Names.{all_cells, cell_place}
use Rattle.shared_worlds.specs.Bodies.{objects_source}

-- ---- functions, table, exports

abbrev pub objects_function : Program → Layout → List Part → FunctionKey → Option Runs
objects_function p l parts k = Some (record { kind = type_of p p.parts k; source = objects_source p l parts k })

-- The table is the loader's, null but for the link's functions, which stand from the table's base on.
abbrev pub objects_table : Placing → Program → Layout → List (Option ℕ)
objects_table x p l =
    let nulls : List (Option ℕ) = replicate (unwrap_or x.entries (slot_count l)) None in
    take (table_base x.session) nulls ++ map (function_place p) l.numbers.slots ++ drop (table_base x.session + slot_count l) nulls

-- An exported datum is a number, its offset from the memory's base.
abbrev pub objects_target : Program → Layout → InputSymbol → SymbolKind → Target
objects_target p l e Function = target_by ToFunction (function_place p (function_of e))
objects_target p l e Datum = ToNumber (address_of Shared l e)
objects_target p l e GlobalVar = target_by ToCell (cell_place p (global_of Shared e))
objects_target p l e Section = Elsewhere
objects_target p l e Table = Elsewhere

abbrev pub objects_export : Program → Layout → InputSymbol → Exported
objects_export p l e = record { name = export_name p e; target = objects_target p l e e.symbol.kind }

unfoldable pub objects_by : Placing → Program → List Part → List InputSymbol → Layout → World
objects_by x p parts exports l = record {
  functions = map (objects_function p l parts) (all_functions p);
  table = Some (objects_table x p l);
  exports = map (objects_export p l) exports;
  memory = Some 65536;
}

-- ---- cells at first

-- What is given for an import, what an object's global is written with, and 0 in a cell of the link's own. The last one is no cell.
abbrev pub objects_value : Session → List Part → Layout → GlobalKey → Option Value
objects_value s parts l (outside_global k) = Some (first_value s k.module_name k.field (global_kind k.type))
objects_value s parts l (linker_global n) = None
objects_value s parts l (own_global input index) = part_value (find (is_global_at input index) parts)
objects_value s parts l (got k) = Some (values.I32 0)
objects_value s parts l (exported_datum e) = Some (values.I32 (address_of Shared l e))

-- ---- memory at first

-- A live segment at its offset from a base, with 0 in its windows.
abbrev pub block_at : ℕ → Program → Layout → Part → Block
block_at base p l part = record { address = base + segment_address l part.chunk; bytes = filled (map patch_of (map (λ w. held_as w.form w) (windows Shared l part))) (part_bytes p part) }

-- The least pages: as many as hold the data.
abbrev pub least_pages : Layout → ℕ
least_pages l = up l.places.data_end 65536 / 65536

abbrev pub pages_given : Session → Layout → ℕ
pages_given s l = unwrap_or s.pages (least_pages l)

abbrev pub blocks_of : Session → Program → List Part → Layout → List Block
blocks_of s p parts l = map (block_at (memory_base s) p l) (solid_segments p parts) ++ map (block_at (memory_base s) p l) (zero_segments p parts)

unfoldable pub objects_start_by : Session → Program → List Part → Layout → State
objects_start_by s p parts l = at_first (map (objects_value s p.parts l) (all_cells p)) (stored (blocks_of s p parts l) (zeros (pages_given s l)))

-- ---- the trace of the loaded objects, under the layout of the link

abbrev pub objects_world : Placing → Program → List InputSymbol → World
objects_world x p exports = objects_by x p (live p exports) exports (shared_lay p exports)

abbrev pub objects_start : Session → Program → List InputSymbol → State
objects_start s p exports = objects_start_by s p (live p exports) (shared_lay p exports)

unfoldable pub objects_trace : Placing → Program → List InputSymbol → ℕ → Trace
objects_trace x p exports n = trace_of (objects_world x p exports) x.session (objects_start x.session p exports) n
