-- The joined sections as pieces that are written one behind another, and how they are cut into parts.
use Rattle.std.specs.Prelude.{◌≡◌, ℕ, ◌+◌, ◌*◌, ◌/◌, nat_le, Bool, true, List, [], ◌∷◌, ◌++◌, length, map, take, flat_map, slice_range, sum_by, if◌then◌else◌, Option}
use Rattle.std.specs.List.{AllByRecursion}
use Rattle.leb_codec.specs.Shortest.{u32}
use Rattle.image_emit.specs.Parts.{below}
use Rattle.debug_rules.specs.Joined.{Places, place_at, written}
use Rattle.debug_out.specs.declared.refs.DebugRef.{DebugRef}
use Rattle.debug_out.specs.declared.pieces.Piece.{Piece}
use Rattle.debug_out.specs.declared.pieces.Piece.TheVariants.{Head, Content}
use Rattle.debug_out.specs.Refs.{debug_seen, entries_of}
use Rattle.debug_rules.specs.Faults.{lie_apart}
use Rattle.debug_out.specs.Windows.{Stands}

-- what stands before contributions: the id, the size of the payload, the length of the name, and the name
abbrev pub head_bytes : List ℕ → ℕ → ℕ → List ℕ
head_bytes name own payload = 0 ∷ u32 payload ++ (u32 own ++ name)

abbrev pub piece_bytes : List (List (Option ℕ)) → Places → Piece → List ℕ
piece_bytes rows p (Head name own payload) = head_bytes name.now own payload
piece_bytes rows p (Content d) = written (place_at rows d.object) p (debug_seen d)

abbrev pub pieces_bytes : List (List (Option ℕ)) → Places → List Piece → List ℕ
pieces_bytes rows p qs = flat_map (piece_bytes rows p) qs

-- how many bytes it has
abbrev pub piece_len : Piece → ℕ
piece_len (Head name own payload) = length (head_bytes name.now own payload)
piece_len (Content d) = length d.content.now

-- whether the windows of a contribution lie in it, apart
abbrev pub fits : Piece → Bool
fits (Head name own payload) = true
fits (Content d) = lie_apart (length d.content.now) 0 (entries_of d.relocs.now)

abbrev pub Fits : Piece → Type 0
Fits (Head name own payload) = Unit {0}
Fits (Content d) = Stands (debug_seen d)

abbrev pub pieces_len : List Piece → ℕ
pieces_len qs = sum_by piece_len qs

-- where each begins
abbrev pub starts_from : ℕ → List Piece → List ℕ
starts_from at [] = []
starts_from at (q ∷ qs) = at ∷ starts_from (at + piece_len q) qs

-- the piece at which a part begins: each part has its share of the bytes, as far as pieces allow that
abbrev pub part_first : List ℕ → ℕ → ℕ → ℕ → ℕ
part_first starts len width part = if nat_le width part then length starts else below (len / width * part) starts

-- where the part begins
abbrev pub part_start : List Piece → ℕ → ℕ → ℕ
part_start qs width part = pieces_len (take (part_first (starts_from 0 qs) (pieces_len qs) width part) qs)

-- the pieces of a part
abbrev pub part_pieces : List Piece → ℕ → ℕ → List Piece
part_pieces qs width part =
    slice_range qs (part_first (starts_from 0 qs) (pieces_len qs) width part) (part_first (starts_from 0 qs) (pieces_len qs) width (part + 1))
