-- The first relocation in live code that a shared output can't have (Linking.md, "Relocation Sections"; DynamicLinking.md).
use Rattle.std.specs.Prelude.{ℕ, ◌+◌, ◌<◌, ◌^◌, ◌==◌, Bool, false, ◌&&◌, ◌||◌, List, [], ◌∷◌, map, length, slice_index_or, if◌then◌else◌, Option, Some, None}
use Rattle.std.specs.List.{All, position}
use Rattle.object_file.specs.wl_base.Choice.{first_some}
use Rattle.object_file.specs.body_windows.declared.operand.Operand.{Operand}
use Rattle.object_file.specs.body_windows.declared.operand.Operand.TheVariants as operands
use Rattle.object_file.specs.object_columns.declared.functions.FunctionDef.{FunctionDef}
use Rattle.object_file.specs.declared.object.Object.{Object}
use Rattle.object_file.specs.reloc_section.declared.kinds.TheConstants as relocs
use Rattle.mark_bits.specs.declared.chunk.Chunk.{Chunk}
use Rattle.mark_bits.specs.declared.kinds.TheConstants as chunk_kinds
use Rattle.mark_bits.specs.Words.{bit_of}

-- A relocation: the input of its object, its symbol and its type.
abbrev pub Fixed : Type 0
Fixed = ℕ × ℕ × ℕ

-- A relocation's type holds an absolute slot or address, or one relative to a base, which no foreign symbol has.
abbrev pub is_fixed : ℕ → Bool → Bool
is_fixed kind foreign =
    (kind == relocs.TABLE_INDEX_SLEB) || (kind == relocs.MEMORY_ADDR_LEB) || (kind == relocs.MEMORY_ADDR_SLEB)
    || (((kind == relocs.MEMORY_ADDR_REL_SLEB) || (kind == relocs.TABLE_INDEX_REL_SLEB)) && foreign)

abbrev pub fixed_operand : ℕ → List Bool → Operand → Option Fixed
fixed_operand input foreign operands.Number = None
fixed_operand input foreign (operands.Symbol kind place symbol addend) =
    if is_fixed kind (slice_index_or foreign symbol false) then Some (input, symbol, kind) else None
fixed_operand input foreign (operands.TypeRef place index) = None
fixed_operand input foreign operands.TableZero = None

abbrev pub in_function : ℕ → List Bool → List Operand → Option Fixed
in_function input foreign ops = first_some (map (fixed_operand input foreign) ops)

-- ---- live functions

abbrev pub same_chunk : Chunk → Chunk → Bool
same_chunk a b = (a.input == b.input) && (a.kind == b.kind) && (a.index == b.index)

abbrev pub is_set : List ℕ → Option ℕ → Bool
is_set words None = false
is_set words (Some number) = bit_of words number == 1

-- A chunk is live where its bit is set, which stands at its place in the table.
abbrev pub is_live : List ℕ → List Chunk → Chunk → Bool
is_live words chunks c = is_set words (position (same_chunk c) chunks)

abbrev pub live_function : List ℕ → List Chunk → ℕ → List Bool → ℕ → FunctionDef → Option Fixed
live_function words chunks input foreign index f =
    if is_live words chunks (record { input = input; kind = chunk_kinds.FUNCTION; index = index }) then in_function input foreign f.operands else None

-- the first among functions, from an index on
abbrev pub functions_from : (ℕ → FunctionDef → Option Fixed) → ℕ → List FunctionDef → Option Fixed
functions_from test index [] = None
functions_from test index (f ∷ fs) = first_some (test index f ∷ functions_from test (index + 1) fs ∷ [])

abbrev pub in_object : List ℕ → List Chunk → Object → List Bool → Option Fixed
in_object words chunks o foreign = functions_from (live_function words chunks o.input foreign) 0 o.functions

-- ---- objects, each with the flags of its symbols

abbrev pub objects_from : (ℕ → Object → Option Fixed) → ℕ → List Object → Option Fixed
objects_from test at [] = None
objects_from test at (o ∷ os) = first_some (test at o ∷ objects_from test (at + 1) os ∷ [])

abbrev pub first_not_pic : List ℕ → List Chunk → List Object → List (List Bool) → Option Fixed
first_not_pic words chunks objects foreign = objects_from (λ at o. in_object words chunks o (slice_index_or foreign at [])) 0 objects

-- An object has fewer than 2^32 functions.
abbrev pub AreFew : List Object → Type 0
AreFew objects = All (λ (o : Object). length o.functions < 2 ^ 32) objects
