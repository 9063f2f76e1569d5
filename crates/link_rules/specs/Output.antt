-- The output as an image, and the windows of its sources.
use Rattle.std.specs.Prelude.{ℕ, ◌+◌, ◌/◌, ◌==◌, Bool, true, false, not, ◌&&◌, List, [], ◌∷◌, ◌++◌, map, filter, filter_map, find, if◌then◌else◌, Option, Some, None, option_map, pos, codes}
use Rattle.name_rules.specs.object_file.wasm_types.declared.table.Limits.{Limits}
use Rattle.name_rules.specs.object_file.wasm_types.declared.table.TableType.{TableType}
use Rattle.name_rules.specs.object_file.wasm_types.declared.value.ValType.TheVariants.{I32}
use Rattle.name_rules.specs.object_file.wasm_types.declared.import.Import.{Import}
use Rattle.name_rules.specs.object_file.wasm_types.declared.import.ImportKind.{ImportKind}
use Rattle.name_rules.specs.object_file.wasm_types.declared.import.ImportKind.TheVariants as kinds
use Rattle.name_rules.specs.object_file.wasm_types.declared.const_expr.ConstExpr.TheVariants as constants
use Rattle.name_rules.specs.object_file.wasm_module.declared.export_kinds.TheConstants as exported
use Rattle.name_rules.specs.object_file.wasm_module.declared.parts.Export.{Export}
use Rattle.name_rules.specs.object_file.wasm_module.declared.parts.ModuleGlobal.{ModuleGlobal}
use Rattle.name_rules.specs.object_file.wasm_module.declared.parts.Element.{Element}
use Rattle.name_rules.specs.object_file.linking_section.declared.symbol.SymbolKind.{SymbolKind}
use Rattle.name_rules.specs.object_file.linking_section.declared.symbol.SymbolKind.TheVariants.{Function, Datum, GlobalVar, Section, Table}
use Rattle.made_symbols.specs.declared.mode.Mode.{Mode}
use Rattle.made_symbols.specs.declared.mode.Mode.TheVariants.{Plain, Shared}
use Rattle.made_symbols.specs.Made.{call_ctors, stack_pointer}
use Rattle.mark_bits.specs.declared.kinds.TheConstants as chunks
use Rattle.name_rules.specs.Entries.{InputSymbol, ImportKey, SymbolType, of_function, of_global, untyped}
use Rattle.memory_layout.specs.Memory.{places, up}
use Rattle.reloc_apply.specs.declared.window.Window.{Window}
use Rattle.reloc_apply.specs.declared.window.Form.{Form}
use Rattle.reloc_apply.specs.declared.window.Form.TheVariants.{Unsigned5, Signed5, Word4}
use Rattle.reloc_apply.specs.Windows.{signed32}
use Rattle.dylink_out.specs.Shared.{apply_body, dylink_payload}
use Rattle.ctor_call.specs.Body.{ctor_body}
use Rattle.dylink_out.specs.image_emit.declared.tree.Image.{Image}
use Rattle.dylink_out.specs.image_emit.declared.tree.PlacedSource.{PlacedSource}
use Rattle.dylink_out.specs.image_emit.declared.tree.Source.{Source}
use Rattle.dylink_out.specs.image_emit.declared.tree.Source.TheVariants.{File, Own}
use Rattle.dylink_out.specs.image_emit.Bytes.{sized}
use Rattle.link_rules.specs.Program.{Program, Part, Content, function, segment, global, linker_made, refs}
use Rattle.link_rules.specs.Marks.{by_mode, imports_memory, memory_name, export_name}
use Rattle.link_rules.specs.Keys.{FunctionKey, outside, linker_function, stub, own, GlobalKey, outside_global, linker_global, own_global, got, exported_datum, function_of, global_of, ref_function, numbers, function_number, global_number, type_of, type_place, is_function_at}
use Rattle.link_rules.specs.Loader.{words, dylink}
use Rattle.link_rules.specs.Values.{Layout, solid_segments, slot_count, rules_of, segments, shapes, segment_address, address_of, got_value, made_global_value, windows}

-- Where everything stands, and all numbers.
unfoldable pub layout : Mode → Program → List Part → List InputSymbol → Layout
layout mode p parts exports = record {
  segments = map (λ part. part.chunk) (segments parts);
  places = places (rules_of mode p.plan) (shapes p parts);
  numbers = numbers mode p parts exports;
}

abbrev pub content_global : Content → Option ModuleGlobal
content_global (function t) = None
content_global (segment info) = None
content_global (global g) = Some (record { kind = g.kind; value = g.value })
content_global (linker_made m) = None

module _ (mode : Mode) (p : Program) (parts : List Part) (exports : List InputSymbol) (l : Layout) where
  -- ---- imports: the memory, if it is imported, then functions, then globals; a shared output imports its table behind the memory

  abbrev pub imported_kind : SymbolType → ImportKind
  imported_kind (of_function t) = kinds.Function (type_place l.numbers t)
  imported_kind (of_global g) = kinds.GlobalVar g
  imported_kind untyped = kinds.Function 0

  abbrev pub import_for : ImportKey → Import
  import_for k = record { «module» = k.module_name; field = k.field; kind = imported_kind k.type }

  abbrev pub function_import : FunctionKey → Option Import
  function_import (outside k) = Some (import_for k)
  function_import (linker_function k) = None
  function_import (stub name) = None
  function_import (own input index) = None

  abbrev pub global_import : GlobalKey → Option Import
  global_import (outside_global k) = Some (import_for k)
  global_import (linker_global k) = None
  global_import (own_global input index) = None
  global_import (got key) = None
  global_import (exported_datum e) = None

  -- The memory in pages of 65,536 bytes, with the greatest size where one is asked for; in a shared output as many as hold its data.
  abbrev pub memory : Limits
  memory = by_mode mode
      (record { min = l.places.pages; max = option_map (λ n. n / 65536) p.plan.max_memory })
      (record { min = up l.places.data_end 65536 / 65536; max = None })

  abbrev pub memory_import : List Import
  memory_import = record { «module» = codes "env"; field = memory_name; kind = kinds.Memory memory } ∷ []

  abbrev pub table_import : List Import
  table_import = record { «module» = codes "env"; field = codes "__indirect_function_table"; kind = kinds.Table (record { funcref = true; limits = record { min = slot_count l; max = None } }) } ∷ []

  abbrev pub imports : List Import
  imports =
      (if imports_memory mode p then memory_import else [])
      ++ by_mode mode [] table_import
      ++ filter_map function_import l.numbers.functions
      ++ filter_map global_import l.numbers.globals

  -- ---- data: the segments that aren't zero, by rising address

  abbrev pub placed_source : Part → PlacedSource
  placed_source part = record { address = segment_address l part.chunk; source = File part.source }

  abbrev pub first_address : List Part → ℕ
  first_address [] = 0
  first_address (part ∷ rest) = segment_address l part.chunk

  -- ---- functions

  abbrev pub is_import : FunctionKey → Bool
  is_import (outside k) = true
  is_import (linker_function k) = false
  is_import (stub name) = false
  is_import (own input index) = false

  abbrev pub defined : List FunctionKey
  defined = filter (λ f. not (is_import f)) l.numbers.functions

  -- no locals, unreachable, end
  abbrev pub stub_body : List ℕ
  stub_body = 0 ∷ 0 ∷ 0x0B ∷ []

  abbrev pub calls_of : Option Part → List ℕ
  calls_of None = []
  calls_of (Some part) = map (λ ref. function_number l.numbers (ref_function ref)) (refs part)

  abbrev pub source_of : Option Part → Source
  source_of None = Own []
  source_of (Some part) = File part.source

  abbrev pub part_at : ℕ → ℕ → Option Part
  part_at input index = find (is_function_at input index) parts

  -- The body of a function: `__wasm_call_ctors` calls the init functions, the linker's other function makes addresses
  -- right, and the body of an object's function is its bytes.
  abbrev pub body_of : FunctionKey → Source
  body_of (outside k) = Own []
  body_of (linker_function k) = Own (if k == call_ctors then ctor_body (calls_of (part_at 0 k)) else apply_body (words mode p parts l))
  body_of (stub name) = Own stub_body
  body_of (own input index) = source_of (part_at input index)

  abbrev pub windows_in : Option Part → List Window
  windows_in None = []
  windows_in (Some part) = windows mode l part

  -- The windows of a body. What the linker makes has its numbers already.
  abbrev pub body_windows : FunctionKey → List Window
  body_windows (outside k) = []
  body_windows (linker_function k) = []
  body_windows (stub name) = []
  body_windows (own input index) = windows_in (part_at input index)

  -- ---- table, globals, exports

  -- The table has slot 0, which stays empty, and the slots; it can't grow.
  abbrev pub table : TableType
  table = record { funcref = true; limits = record { min = 1 + slot_count l; max = Some (1 + slot_count l) } }

  -- One segment with all slots, from the first slot on; none without slots.
  abbrev pub elements : List Element
  elements = if slot_count l == 0 then [] else record { table = None; offset = by_mode mode (constants.I32 (pos 1)) (constants.Get 2); functions = map (function_number l.numbers) l.numbers.slots } ∷ []

  abbrev pub i32_const : Bool → ℕ → ModuleGlobal
  i32_const var n = record { kind = record { kind = I32; var = var }; value = constants.I32 (signed32 n) }

  abbrev pub global_content : Option Part → Option ModuleGlobal
  global_content None = None
  global_content (Some part) = content_global part.content

  -- A defined global. Of the linker's only `__stack_pointer` can be written. A cell of an address is a constant in a plain
  -- output, and begins as 0 in a shared one. An exported datum is a constant that holds its address.
  abbrev pub global_for : GlobalKey → Option ModuleGlobal
  global_for (outside_global k) = None
  global_for (linker_global k) = Some (i32_const (k == stack_pointer) (made_global_value l k))
  global_for (own_global input index) = global_content (find (λ part. (part.chunk.kind == chunks.GLOBAL) && (part.chunk.input == input) && (part.chunk.index == index)) parts)
  global_for (got key) = Some (by_mode mode (i32_const false (got_value mode l key)) (i32_const true 0))
  global_for (exported_datum e) = Some (i32_const false (address_of mode l e))

  -- An export by its kind (Core 5.5.10). A datum is exported as a global that holds its address.
  abbrev pub export_of : InputSymbol → SymbolKind → Export
  export_of e Function = record { name = export_name p e; kind = exported.FUNCTION; index = function_number l.numbers (function_of e) }
  export_of e Datum = record { name = export_name p e; kind = exported.GLOBAL; index = global_number l.numbers (exported_datum e) }
  export_of e GlobalVar = record { name = export_name p e; kind = exported.GLOBAL; index = global_number l.numbers (global_of mode e) }
  export_of e Section = record { name = export_name p e; kind = exported.TABLE; index = 0 }
  export_of e Table = record { name = export_name p e; kind = exported.TABLE; index = 0 }

  abbrev pub memory_export : List Export
  memory_export = if imports_memory mode p then [] else record { name = memory_name; kind = exported.MEMORY; index = 0 } ∷ []

  -- ---- the image

  -- The module of the output. Its sources hold the bytes that they have in the files, with no window written.
  unfoldable pub image : Image
  image = record {
    custom = by_mode mode None (Some (sized (codes "dylink.0") ++ dylink_payload (dylink mode p parts l)));
    types = l.numbers.types;
    imports = imports;
    functions = map (λ f. type_place l.numbers (type_of p parts f)) defined;
    tables = by_mode mode (table ∷ []) [];
    memories = if imports_memory mode p then [] else memory ∷ [];
    globals = filter_map global_for l.numbers.globals;
    exports = memory_export ++ map (λ e. export_of e e.symbol.kind) exports;
    elements = elements;
    bodies = map body_of defined;
    data_offset = by_mode mode (constants.I32 (signed32 (first_address (solid_segments p parts)))) (constants.Get 1);
    blocks = map placed_source (solid_segments p parts);
  }

  -- The windows of each source by their places in it: bodies, then data, as in the output.
  unfoldable pub source_windows : List (List Window)
  source_windows = map body_windows defined ++ map (windows mode l) (solid_segments p parts)

-- ---- what windows hold

-- In a shared output the windows of data hold 0; their values are stored when it is loaded.
abbrev pub held_as : Form → Window → Window
held_as Unsigned5 w = w
held_as Signed5 w = w
held_as Word4 w = record w { target = pos 0; addend = pos 0 }

abbrev pub held : Mode → List (List Window) → List (List Window)
held Plain wss = wss
held Shared wss = map (map (λ w. held_as w.form w)) wss
