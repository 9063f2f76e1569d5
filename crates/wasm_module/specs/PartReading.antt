-- Reading globals, exports, element and data segments (WebAssembly Core Specification 2.0, sections
-- 5.5.9, 5.5.10, 5.5.12 and 5.5.14), from left to right.
--
-- An item that isn't linked is foreign as soon as the bytes tell it, and what follows isn't read.
-- Any other byte that is outside the grammar is broken, at its own place.
use Rattle.std.specs.Prelude.{ℕ, ◌-◌, Bool, [], ◌∷◌, length, nat_le, Some, None, Result, Ok, Err, ◌==◌, ◌&&◌, if◌then◌else◌}
use Rattle.wasm_instr.specs.wl_base.declared.item.Item.TheVariants as items
use Rattle.wasm_instr.specs.wasm_grammar.declared.fault.Stop.{Stop}
use Rattle.wasm_instr.specs.wasm_grammar.declared.fault.Stop.TheVariants.{Broken, Foreign}
use Rattle.wasm_instr.specs.wasm_grammar.Reading.{Read, ◌>>=◌, byte_at, tag_at, u32_at, name_at, bytes_at, vector_at}
use Rattle.wasm_instr.specs.wasm_types.declared.const_expr.ConstExpr.{ConstExpr}
use Rattle.wasm_instr.specs.wasm_types.declared.const_expr.ConstExpr.TheVariants as exprs
use Rattle.wasm_instr.specs.wasm_types.Types.{closed_at, const_expr_at, global_type_at}
use Rattle.wasm_module.specs.declared.parts.ModuleGlobal.{ModuleGlobal}
use Rattle.wasm_module.specs.declared.parts.Export.{Export}
use Rattle.wasm_module.specs.declared.parts.Element.{Element}
use Rattle.wasm_module.specs.declared.parts.DataSegment.{DataSegment}

-- The value of a global, behind the opcode.
abbrev pub get_expr_at : Read ConstExpr
get_expr_at end bytes = do
  index ← u32_at end bytes
  rest ← closed_at end index.1
  Ok (exprs.Get index.0, rest)

-- A constant expression, which may be a global.get (23) or not.
unfoldable pub init_at : Bool → Read ConstExpr
init_at get end [] = const_expr_at end []
init_at get end (byte ∷ rest) =
    if get && (byte == 0x23) then get_expr_at end rest else const_expr_at end (byte ∷ rest)

unfoldable pub global_at : Bool → Read ModuleGlobal
global_at get end bytes = do
  kind ← global_type_at end bytes
  value ← init_at get end kind.1
  Ok (record { kind = kind.0; value = value.0 }, value.1)

-- What is exported, of a byte at this place.
abbrev pub export_kind : ℕ → ℕ → Result ℕ Stop
export_kind place byte = if nat_le byte 3 then Ok byte else Err (Broken place)

unfoldable pub export_at : Read Export
export_at end bytes = do
  name ← name_at end bytes
  byte ← byte_at end name.1
  kind ← export_kind (end - length name.1) byte.0
  index ← u32_at end byte.1
  Ok (record { name = name.0; kind = kind; index = index.0 }, index.1)

-- The functions of table 0.
abbrev pub first_table_at : Bool → Read Element
first_table_at get end bytes = do
  offset ← init_at get end bytes
  functions ← vector_at u32_at end offset.1
  Ok (record { table = None; offset = offset.0; functions = functions.0 }, functions.1)

-- The functions of a table that is named.
abbrev pub named_table_at : Bool → Read Element
named_table_at get end bytes = do
  table ← u32_at end bytes
  offset ← init_at get end table.1
  rest ← tag_at 0 end offset.1
  functions ← vector_at u32_at end rest
  Ok (record { table = Some table.0; offset = offset.0; functions = functions.0 }, functions.1)

-- An element segment behind its flag. One other than 0 and 2 is foreign.
abbrev pub flagged_element : Bool → ℕ → Read Element
flagged_element get flag end rest =
    if flag == 0 then first_table_at get end rest
    else (if flag == 2 then named_table_at get end rest
    else Err (Foreign (items.SegmentForm flag)))

unfoldable pub element_at : Bool → Read Element
element_at get end bytes = do
  flag ← u32_at end bytes
  flagged_element get flag.0 end flag.1

-- The bytes of memory 0.
abbrev pub first_memory_at : Bool → Read DataSegment
first_memory_at get end bytes = do
  offset ← init_at get end bytes
  content ← bytes_at end offset.1
  Ok (record { memory = None; offset = offset.0; bytes = content.0 }, content.1)

-- The bytes of a memory that is named.
abbrev pub named_memory_at : Bool → Read DataSegment
named_memory_at get end bytes = do
  memory ← u32_at end bytes
  offset ← init_at get end memory.1
  content ← bytes_at end offset.1
  Ok (record { memory = Some memory.0; offset = offset.0; bytes = content.0 }, content.1)

-- A data segment behind its flag. One of flag 1 is passive, and foreign as any other flag but 0 and
-- 2 is.
abbrev pub flagged_data : Bool → ℕ → Read DataSegment
flagged_data get flag end rest =
    if flag == 0 then first_memory_at get end rest
    else (if flag == 2 then named_memory_at get end rest
    else (if flag == 1 then Err (Foreign items.PassiveSegment)
    else Err (Foreign (items.SegmentForm flag))))

unfoldable pub data_segment_at : Bool → Read DataSegment
data_segment_at get end bytes = do
  flag ← u32_at end bytes
  flagged_data get flag.0 end flag.1
