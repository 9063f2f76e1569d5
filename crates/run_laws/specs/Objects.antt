-- The loaded objects of a link as the machine takes them: the world of plan and files, each cell with what it holds at first, and the live
-- segments at their addresses. Of the layout they take what a program can tell of it, and no byte of the output.
use Rattle.std.specs.Prelude.{◌==◌, ◌&&◌, List, ◌++◌, map, find, Some}
use Rattle.made_symbols.specs.declared.mode.Mode.TheVariants.{Plain}
use Rattle.name_rules.specs.Entries.{InputSymbol}
use Rattle.image_emit.specs.Bytes.{Block}
use Rattle.run_rules.specs.declared.value.Value.TheVariants.{I32}
use Rattle.link_rules.specs.Program.{Program, Part}
use Rattle.link_rules.specs.Marks.{live}
use Rattle.link_rules.specs.Keys.{GlobalKey, outside_global, linker_global, own_global, got, exported_datum}
use Rattle.link_rules.specs.Values.{Layout, solid_segments, got_value, made_global_value, address_of}
use Rattle.link_worlds.specs.Names.{all_cells}
use Rattle.link_worlds.specs.Worlds.{layout_of, plan_world, global_kind, part_value, segment_block, zero_segments}
use Rattle.run_machines.specs.declared.sym.SymCell.{SymCell}
use Rattle.run_machines.specs.declared.sym.SymCell.TheVariants.{Import, Holds}
use Rattle.run_machines.specs.declared.sym.SymSegment.{SymSegment}
use Rattle.run_machines.specs.declared.sym.SymWorld.{SymWorld}

abbrev pub sym_cell : List Part → Layout → GlobalKey → SymCell
sym_cell parts l (outside_global k) = Import k.module_name k.field (global_kind k.type)
sym_cell parts l (linker_global n) = Holds (Some (I32 (made_global_value l n)))
sym_cell parts l (own_global input index) = Holds (part_value (find (λ part. (part.chunk.kind == 2) && (part.chunk.input == input) && (part.chunk.index == index)) parts))
sym_cell parts l (got k) = Holds (Some (I32 (got_value Plain l k)))
sym_cell parts l (exported_datum e) = Holds (Some (I32 (address_of Plain l e)))

abbrev pub sym_segment : Block → SymSegment
sym_segment b = record { address = b.address; bytes = b.bytes }

abbrev pub blocks_of : Program → List Part → Layout → List Block
blocks_of p parts l = map (segment_block p l) (solid_segments p parts) ++ map (segment_block p l) (zero_segments p parts)

-- the objects of a program, which nothing links
unfoldable pub objects_of : Program → List InputSymbol → SymWorld
objects_of p exports = record {
  world = plan_world p exports;
  cells = map (sym_cell p.parts (layout_of p exports)) (all_cells p);
  imported = p.plan.import_memory;
  pages = (layout_of p exports).places.pages;
  segments = map sym_segment (blocks_of p (live p exports) (layout_of p exports));
}
