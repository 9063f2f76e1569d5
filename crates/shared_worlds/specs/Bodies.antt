-- The bodies of functions as the loaded objects have them, with what their references mean in a shared output: a global, and the address of a
-- function or datum that code reads, is a cell. Opcodes are Core's (5.4): 0x00 `unreachable`, 0x0B `end`, 0x36 `i32.store` of alignment 2 and
-- offset 0, 0x6A `i32.add`.
use Rattle.std.specs.Prelude.{ℕ, ◌+◌, ◌==◌, List, [], ◌∷◌, ◌++◌, map, flat_map, find, if◌then◌else◌, Option, Some, None, Result, Ok, Err, ℤ, pos, ◌+ℤ◌}
use Rattle.wasm_grammar.specs.declared.fault.Stop.{Stop}
use Rattle.wasm_instr.specs.declared.instr.Instr.{Instr}
use Rattle.wasm_instr.specs.declared.instr.Instr.TheVariants as instrs
use Rattle.wasm_instr.specs.declared.instr.BlockKind.TheVariants as blocks
use Rattle.wasm_instr.specs.declared.body.Placed.{Placed}
use Rattle.wasm_instr.specs.declared.body.Body.{Body}
use Rattle.wasm_instr.specs.Bodies.{body_at}
use Rattle.reloc_section.specs.declared.kinds.TheConstants as relocs
use Rattle.made_symbols.specs.declared.mode.Mode.TheVariants.{Shared}
use Rattle.made_symbols.specs.Made.{call_ctors}
use Rattle.name_rules.specs.Meanings.{cell_of}
use Rattle.reloc_apply.specs.Windows.{bits32, signed32}
use Rattle.run_rules.specs.declared.op.Op.{Op}
use Rattle.run_rules.specs.declared.op.Op.TheVariants.{Own, ReadCell, WriteCell, Absent}
use Rattle.run_rules.specs.declared.world.Source.{Source}
use Rattle.run_rules.specs.declared.world.Source.TheVariants.{Nowhere, Host, Code}
use Rattle.run_rules.specs.Ops.{block_type, opening, cell_op}
use Rattle.link_rules.specs.Program.{Program, Part, Ref, Named, a_symbol, a_type, refs}
use Rattle.link_rules.specs.Marks.{is_foreign}
use Rattle.link_rules.specs.Keys.{FunctionKey, outside, linker_function, stub, own, GlobalKey, outside_global, GotKey, got, got_entries, is_function_at, ref_global}
use Rattle.link_rules.specs.Values.{Layout, part_bytes, solid_segments, segment_address, meant_address, ref_slot, got_value}
use Rattle.link_rules.specs.Loader.{is_function_got}
use Rattle.link_worlds.specs.Bodies.{named_at, first_place, instr_in, to_name, called, called_through, opened, plan_calls}
use Rattle.shared_worlds.specs.Placing.{memory_base_name, table_base_name}
use Rattle.shared_worlds.specs.Names.{cell_place, base_key}

module _ (p : Program) (l : Layout) where
  -- ---- functions of objects

  abbrev pub at_cell : ℕ → Option Named → Op
  at_cell op None = Absent
  at_cell op (Some (a_symbol ref)) = to_name (cell_op op) (cell_place p (ref_global Shared ref))
  at_cell op (Some (a_type w)) = Absent

  -- Offsets and constants are those of the layout, from the bases on.
  abbrev pub op_at : List Named → Placed → Instr → Op
  op_at names x (instrs.Block op (blocks.Index n)) = opened p l op (named_at names x.mid)
  op_at names x (instrs.Block op kind) = opening op (block_type [] kind)
  op_at names x (instrs.Call f) = called p l (named_at names x.mid)
  op_at names x (instrs.CallIndirect kind table) = called_through p l (named_at names (first_place x))
  op_at names x (instrs.GlobalAt op g) = at_cell op (named_at names x.mid)
  op_at names x i = Own (instr_in Shared l names x i)

  abbrev pub objects_op : List Named → Placed → Op
  objects_op names x = op_at names x x.instr

  abbrev pub objects_body : List Named → Result Body Stop → Source
  objects_body names (Err stop) = Nowhere
  objects_body names (Ok b) = Code b.locals (map (objects_op names) b.code)

  -- A part of an object: its bytes as a body.
  abbrev pub objects_part : Option Part → Source
  objects_part None = Nowhere
  objects_part (Some part) = objects_body part.named (body_at (part_bytes p part))

  -- ---- the function that makes addresses right when the output is loaded

  abbrev pub read : GlobalKey → Op
  read k = to_name ReadCell (cell_place p k)

  abbrev pub write : GlobalKey → Op
  write k = to_name WriteCell (cell_place p k)

  -- a cell's value and a constant, added
  abbrev pub plus : GlobalKey → ℤ → List Op
  plus k n = read k ∷ Own (instrs.I32Const n) ∷ Own (instrs.Plain 0x6A) ∷ []

  -- a datum at an offset from the memory's base, and a slot at a place from the table's base
  abbrev pub datum_at : ℕ → List Op
  datum_at n = plus (base_key memory_base_name) (signed32 n)

  abbrev pub slot_at : ℕ → List Op
  slot_at n = plus (base_key table_base_name) (signed32 n)

  -- What a window of live data holds: a slot, or an address and the addend; of a foreign symbol, what the loader put into its cell.
  abbrev pub slot_value : Ref → List Op
  slot_value ref = if is_foreign ref then read (outside_global (cell_of ref.entry)) ∷ [] else slot_at (ref_slot l ref)

  abbrev pub address_value : Ref → List Op
  address_value ref =
      if is_foreign ref then plus (outside_global (cell_of ref.entry)) ref.addend
      else datum_at (bits32 (pos (meant_address Shared l ref.meaning) +ℤ ref.addend))

  abbrev pub window_value : Ref → List Op
  window_value ref = if ref.kind == relocs.TABLE_INDEX_I32 then slot_value ref else address_value ref

  abbrev pub stores_window : ℕ → Ref → List Op
  stores_window address ref = datum_at (address + ref.place) ++ (window_value ref ++ Own (instrs.Access 0x36 2 0) ∷ [])

  abbrev pub stores_segment : Part → List Op
  stores_segment part = flat_map (stores_window (segment_address l part.chunk)) (refs part)

  -- What a cell of the link's own holds: the slot of a function, or the address of a datum.
  abbrev pub sets_cell : List Part → GotKey → List Op
  sets_cell parts key =
      (if is_function_got Shared p parts l key then slot_at (got_value Shared l key) else datum_at (got_value Shared l key)) ++ write (got key) ∷ []

  -- Each window of live data, then each cell of an address that live code reads.
  abbrev pub stores_all : List Part → List Op
  stores_all parts = flat_map stores_segment (solid_segments p parts) ++ flat_map (sets_cell parts) (got_entries Shared parts)

  -- ---- a function of the program, by its key, where these parts are live

  abbrev pub objects_source : List Part → FunctionKey → Source
  objects_source parts (outside k) = Host k.module_name k.field
  objects_source parts (linker_function k) =
      if k == call_ctors then plan_calls p l (find (is_function_at 0 k) p.parts) else Code [] (stores_all parts ++ Own (instrs.Plain 0x0B) ∷ [])
  objects_source parts (stub name) = Code [] (Own (instrs.Plain 0x00) ∷ Own (instrs.Plain 0x0B) ∷ [])
  objects_source parts (own input index) = objects_part (find (is_function_at input index) p.parts)
