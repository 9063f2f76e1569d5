-- The bytes of a module as pieces: what stands before the first source, and then each source behind what leads to it.
use Rattle.std.specs.Prelude.{ℕ, ◌+◌, ◌-◌, ◌==◌, List, [], ◌∷◌, ◌++◌, length, map, replicate, if◌then◌else◌, Option, Some, None}
use Rattle.wasm_module.specs.wasm_instr.leb_codec.Shortest.{u32}
use Rattle.wasm_module.specs.wasm_instr.wl_base.declared.span.Span.{Span}
use Rattle.wasm_module.specs.wasm_instr.wasm_types.declared.const_expr.ConstExpr.{ConstExpr}
use Rattle.image_emit.specs.Bytes.{Tree, Block, header, custom_section, section, func_type, import_entry, table, limits, global, export, element, sized, vector, const_expr, data_bytes}

-- A source, which is a body or a block of data, behind what leads to it.
pub record Piece : Type 0 where
  pub head : List ℕ
  pub bytes : List ℕ

-- The pieces one behind another.
abbrev pub joined : List Piece → List ℕ
joined [] = []
joined (p ∷ ps) = p.head ++ p.bytes ++ joined ps

-- A body stands behind its size (Core 5.5.13).
abbrev pub body_piece : List ℕ → Piece
body_piece bytes = record { head = u32 (length bytes); bytes = bytes }

-- A block of data stands behind the zeros from the end of the one before it.
abbrev pub block_pieces : ℕ → List Block → List Piece
block_pieces at [] = []
block_pieces at (b ∷ bs) = record { head = replicate (b.address - at) 0; bytes = b.bytes } ∷ block_pieces (b.address + length b.bytes) bs

-- The data section up to its first byte of data (Core 5.5.14).
abbrev pub data_head : ConstExpr → List ℕ → List ℕ
data_head offset bytes = 11 ∷ u32 (length (1 ∷ 0 ∷ const_expr offset ++ sized bytes)) ++ (1 ∷ 0 ∷ const_expr offset ++ u32 (length bytes))

-- The first block stands behind that.
abbrev pub data_pieces : ConstExpr → List Block → List Piece
data_pieces offset [] = []
data_pieces offset (b ∷ bs) = record { head = data_head offset (data_bytes (b ∷ bs)); bytes = b.bytes } ∷ block_pieces (b.address + length b.bytes) bs

-- One piece for each source: the bodies, then the blocks.
abbrev pub pieces : Tree → List Piece
pieces t = map body_piece t.bodies ++ data_pieces t.data_offset t.blocks

-- The sections before the code section.
abbrev pub sections : Tree → List ℕ
sections t =
    header
    ++ custom_section t.custom
    ++ section 1 func_type t.types
    ++ section 2 import_entry t.imports
    ++ section 3 u32 t.functions
    ++ section 4 table t.tables
    ++ section 5 limits t.memories
    ++ section 6 global t.globals
    ++ section 7 export t.exports
    ++ section 9 element t.elements

-- The code section up to its first body: its number, its size and the count of bodies.
abbrev pub code_head : List (List ℕ) → List ℕ
code_head bodies = if length bodies == 0 then [] else 10 ∷ u32 (length (vector sized bodies)) ++ u32 (length bodies)

-- What stands before the first source.
abbrev pub front : Tree → List ℕ
front t = sections t ++ code_head t.bodies

-- Where the payload of the code section stands in the bytes of the module: behind the sections before it, its number and its
-- size (Core 5.5.2). Its first byte begins the count of bodies. With no body there is no code section.
unfoldable pub code_place : Tree → Option Span
code_place t =
    let payload = vector sized t.bodies in
    if length t.bodies == 0 then None else Some (record { start = length (sections t) + 1 + length (u32 (length payload)); len = length payload })

-- Where the source of each piece begins, from the place at which the first piece begins.
abbrev pub places : ℕ → List Piece → List ℕ
places at [] = []
places at (p ∷ ps) = (at + length p.head) ∷ places (at + length p.head + length p.bytes) ps

-- Where each source begins in the bytes of the module: the bodies, then the blocks.
abbrev pub source_places : Tree → List ℕ
source_places t = places (length (front t)) (pieces t)

-- The sources: the bodies, then the blocks.
abbrev pub sources : Tree → List (List ℕ)
sources t = t.bodies ++ map (λ b. b.bytes) t.blocks
