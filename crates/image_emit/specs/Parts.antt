-- How the bytes of a module are cut into parts: between pieces, by bytes.
use Rattle.std.specs.Prelude.{◌≡◌, map, flat_map, ℕ, suc, ◌+◌, ◌-◌, ◌*◌, ◌/◌, ◌==◌, ◌≤◌, ◌<◌, nat_le, nat_lt, min, max, List, [], ◌∷◌, ◌++◌, length, take, replicate, slice_index_or, if◌then◌else◌}
use Rattle.wasm_module.specs.wasm_instr.wasm_types.declared.const_expr.ConstExpr.{ConstExpr}
use Rattle.image_emit.specs.declared.tree.Image.{Image}
use Rattle.image_emit.specs.Sizes.{bodies_len, data_len}
use Rattle.image_emit.specs.Bytes.{Tree, Block, bytes_of, data_bytes, sized, source_bytes, block_of}
use Rattle.image_emit.specs.Pieces.{Piece, joined, pieces, front, data_head, source_places}

abbrev pub no_piece : Piece
no_piece = record { head = []; bytes = [] }

abbrev pub whole_piece : Piece → List ℕ
whole_piece p = p.head ++ p.bytes

-- the bytes of the piece j
abbrev pub piece_at : Tree → ℕ → List ℕ
piece_at t j = whole_piece (slice_index_or (pieces t) j no_piece)

abbrev pub no_block : Block
no_block = record { address = 0; bytes = [] }

-- a block behind the zeros from the end of another
abbrev pub gapped : Block → Block → List ℕ
gapped before here = replicate (here.address - (before.address + length before.bytes)) 0 ++ here.bytes

-- the piece of the block k, found without the pieces before it
abbrev pub block_piece : ConstExpr → List Block → ℕ → List ℕ
block_piece offset bs k =
    if k == 0 then data_head offset (data_bytes bs) ++ (slice_index_or bs 0 no_block).bytes
    else gapped (slice_index_or bs (k - 1) no_block) (slice_index_or bs k no_block)

-- the bytes before the piece j
unfoldable pub upto : Tree → ℕ → List ℕ
upto t j = front t ++ joined (take j (pieces t))

-- how many places at the front are below a number
abbrev pub below : ℕ → List ℕ → ℕ
below n [] = 0
below n (p ∷ ps) = if nat_lt p n then suc (below n ps) else 0

-- The piece at which a part begins, if there are so many parts. Each part has its share of the bytes, as far as pieces allow
-- that, and one piece at least.
abbrev pub first_piece : List ℕ → ℕ → ℕ → ℕ → ℕ
first_piece places len width part = if nat_le width part then length places else
    max part (min (length places + part - width) (below (len * part / width) places))

unfoldable pub part_first : Tree → ℕ → ℕ → ℕ
part_first t width part = first_piece (source_places t) (length (bytes_of t)) width part

-- where a part begins; the first one begins with what stands before the first piece
unfoldable pub part_start : Tree → ℕ → ℕ → ℕ
part_start t width part = if part == 0 then 0 else length (upto t (part_first t width part))

-- places never fall
abbrev pub Rising : List ℕ → Type 0
Rising places = (i j d : ℕ) → i ≤ j → j < length places → slice_index_or places i d ≤ slice_index_or places j d

-- the sizes of an image are those of the bytes that its sources stand for
abbrev pub Sums : List (List ℕ) → Image → Type 0
Sums files i =
    (length (flat_map sized (map (source_bytes files) i.bodies)) ≡ bodies_len i.bodies)
    × (length (data_bytes (map (block_of files) i.blocks)) ≡ data_len i.blocks)
