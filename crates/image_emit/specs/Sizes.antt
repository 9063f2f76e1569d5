-- How long the parts of an image are, whatever its files hold.
use Rattle.std.specs.Prelude.{ℕ, ◌+◌, ◌-◌, ◌==◌, List, [], ◌∷◌, ◌++◌, length, if◌then◌else◌, Option, Some, None}
use Rattle.wasm_module.specs.wasm_instr.leb_codec.Shortest.{u32}
use Rattle.wasm_module.specs.wasm_instr.wl_base.declared.span.Span.{Span}
use Rattle.wasm_module.specs.wasm_instr.wasm_types.declared.const_expr.ConstExpr.{ConstExpr}
use Rattle.image_emit.specs.Bytes.{const_expr, tree_of}
use Rattle.image_emit.specs.Pieces.{sections}
use Rattle.image_emit.specs.declared.tree.Image.{Image}
use Rattle.image_emit.specs.declared.tree.Source.{Source}
use Rattle.image_emit.specs.declared.tree.Source.TheVariants.{File, Own}
use Rattle.image_emit.specs.declared.tree.PlacedSource.{PlacedSource}

abbrev pub source_len : Source → ℕ
source_len (File f) = f.span.len
source_len (Own bytes) = length bytes

-- the bodies, each behind its size
abbrev pub bodies_len : List Source → ℕ
bodies_len [] = 0
bodies_len (s ∷ ss) = length (u32 (source_len s)) + source_len s + bodies_len ss

-- the blocks from an address on, with what lies between them
abbrev pub blocks_len : ℕ → List PlacedSource → ℕ
blocks_len at [] = 0
blocks_len at (p ∷ ps) = (p.address - at) + source_len p.source + blocks_len (p.address + source_len p.source) ps

-- the blocks from the first one on
abbrev pub data_len : List PlacedSource → ℕ
data_len [] = 0
data_len (p ∷ ps) = blocks_len p.address (p ∷ ps)

-- the head of the code section with so many bodies, of so many bytes
abbrev pub code_head_len : ℕ → ℕ → ℕ
code_head_len count len = if count == 0 then 0 else 1 + length (u32 (length (u32 count) + len)) + length (u32 count)

-- the head of the data section with so many blocks, whose bytes are so many
abbrev pub data_head_len : ConstExpr → ℕ → ℕ → ℕ
data_head_len offset count len = if count == 0 then 0 else
    1 + length (u32 (2 + length (const_expr offset) + length (u32 len) + len)) + 2 + length (const_expr offset) + length (u32 len)

abbrev pub body_places : ℕ → List Source → List ℕ
body_places at [] = []
body_places at (s ∷ ss) = (at + length (u32 (source_len s))) ∷ body_places (at + length (u32 (source_len s)) + source_len s) ss

-- the places of the blocks, if what is at an address stands at a place
abbrev pub block_places : ℕ → ℕ → List PlacedSource → List ℕ
block_places at address [] = []
block_places at address (p ∷ ps) = (at + (p.address - address)) ∷ block_places (at + (p.address - address) + source_len p.source) (p.address + source_len p.source) ps

abbrev pub data_places : ℕ → List PlacedSource → List ℕ
data_places at [] = []
data_places at (p ∷ ps) = block_places at p.address (p ∷ ps)

-- what stands before the first source
abbrev pub front_len : Image → ℕ
front_len i = length (sections (tree_of [] i)) + code_head_len (length i.bodies) (bodies_len i.bodies)

-- the payload of the code section with so many bodies, of so many bytes
abbrev pub code_len : ℕ → ℕ → ℕ
code_len count len = length (u32 count) + len

-- where it stands behind so many bytes of sections
abbrev pub code_span : ℕ → ℕ → ℕ → Option Span
code_span before count len = if count == 0 then None else Some (record { start = before + 1 + length (u32 (code_len count len)); len = code_len count len })

unfoldable pub image_code : Image → Option Span
image_code i = code_span (length (sections (tree_of [] i))) (length i.bodies) (bodies_len i.bodies)

-- the first block's head
abbrev pub image_data_head : Image → ℕ
image_data_head i = data_head_len i.data_offset (length i.blocks) (data_len i.blocks)

abbrev pub image_len : Image → ℕ
image_len i = front_len i + bodies_len i.bodies + (image_data_head i + data_len i.blocks)

abbrev pub image_places : Image → List ℕ
image_places i =
    body_places (front_len i) i.bodies
    ++ data_places (front_len i + bodies_len i.bodies + image_data_head i) i.blocks
