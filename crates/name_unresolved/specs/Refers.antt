-- Which symbols a chunk refers to (tool conventions, Linking.md: "Relocation Sections", "Init Functions Subsection").
use Rattle.std.specs.Prelude.{ℕ, ◌==◌, Bool, false, ◌&&◌, List, [], map, filter, filter_map, flat_map, find, slice_get, if◌then◌else◌, Option, Some, None}
use Rattle.name_meanings.specs.name_entries.linking_section.declared.symbol.Symbol.{Symbol}
use Rattle.name_meanings.specs.name_entries.linking_section.Flags.{is_undefined}
use Rattle.name_meanings.specs.name_entries.body_windows.declared.operand.Operand.{Operand}
use Rattle.name_meanings.specs.name_entries.body_windows.declared.operand.Operand.TheVariants as operands
use Rattle.name_meanings.specs.name_entries.object_columns.declared.functions.FunctionDef.{FunctionDef}
use Rattle.name_meanings.specs.name_entries.object_columns.declared.segments.SegmentDef.{SegmentDef}
use Rattle.name_meanings.specs.name_entries.object_file.declared.object.Object.{Object}
use Rattle.mark_bits.specs.declared.chunk.Chunk.{Chunk}

-- A symbol: an input, and a place among its symbols.
abbrev pub SymbolAt : Type 0
SymbolAt = ℕ × ℕ

abbrev pub at : Object → ℕ → SymbolAt
at o symbol = (o.input, symbol)

-- ---- chunks of objects

-- The symbol that an operand names.
abbrev pub symbol_named : Operand → Option ℕ
symbol_named operands.Number = None
symbol_named (operands.Symbol kind place symbol addend) = Some symbol
symbol_named (operands.TypeRef place index) = None
symbol_named operands.TableZero = None

abbrev pub function_names : Option FunctionDef → List ℕ
function_names None = []
function_names (Some f) = filter_map symbol_named f.operands

abbrev pub segment_names : Option SegmentDef → List ℕ
segment_names None = []
segment_names (Some g) = map (λ w. w.index) g.windows

-- What a chunk of the object names: a defined function (0) by its operands, a data segment (1) by its windows; a global names nothing.
abbrev pub names_in : Object → Chunk → List ℕ
names_in o c =
    if c.kind == 0 then function_names (slice_get o.functions c.index)
    else if c.kind == 1 then segment_names (slice_get o.segments c.index)
    else []

abbrev pub refers_in : Chunk → Option Object → List SymbolAt
refers_in c None = []
refers_in c (Some o) = map (at o) (names_in o c)

-- ---- `__wasm_call_ctors`

abbrev pub is_undefined_one : Option Symbol → Bool
is_undefined_one None = false
is_undefined_one (Some s) = is_undefined s

-- The init functions of an object that it doesn't define. One that it defines means something, or is skipped with its part.
abbrev pub open_inits : Object → List SymbolAt
open_inits o = map (at o) (filter (λ s. is_undefined_one (slice_get o.symbols s)) (map (λ i. i.symbol) o.inits))

-- ---- all chunks

-- Of the linker's own chunks, function 0, `__wasm_call_ctors`, refers to the init functions, and the others to nothing.
abbrev pub refers : List Object → Chunk → List SymbolAt
refers objects c =
    if c.input == 0 then (if (c.kind == 0) && (c.index == 0) then flat_map open_inits objects else [])
    else refers_in c (find (λ o. o.input == c.input) objects)
