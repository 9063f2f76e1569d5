-- The object as pieces that are written one behind another, and how they are cut into runs.
use Rattle.std.specs.Prelude.{◌≡◌, ℕ, ◌+◌, ◌*◌, ◌/◌, ◌^◌, nat_le, nat_lt, ◌==◌, ◌&&◌, Bool, true, List, [], ◌∷◌, ◌++◌, length, map, take, flat_map, slice_range, sum_by, if◌then◌else◌}
use Rattle.std.specs.List.{list_all}
use Rattle.leb_codec.specs.Shortest.{u32}
use Rattle.reloc_section.specs.declared.entry.Reloc.{Reloc}
use Rattle.image_emit.specs.Bytes.{sized}
use Rattle.image_emit.specs.Parts.{below}
use Rattle.partial_bytes.specs.declared.tree.Part.{Part as Lent}
use Rattle.partial_bytes.specs.declared.part.PartKind.{PartKind}
use Rattle.partial_bytes.specs.declared.pieces.Piece.{Piece}
use Rattle.partial_bytes.specs.declared.pieces.Piece.TheVariants.{Front, Head, Part, Linking, RelocHead, Relocs}
use Rattle.partial_bytes.specs.Relocs.{relocs_of}
use Rattle.partial_bytes.specs.Written.{head_len, part_len, part_spelled, part_fits, part_entries, front_of, linking_section}

-- What stands before parts: the number of the section, the size of its payload, and how many there are.
abbrev pub head_bytes : ℕ → ℕ → ℕ → List ℕ
head_bytes id size count = id ∷ u32 size ++ u32 count

-- What stands before relocations: the size of the payload, the section's name, the place of the target, and how many there are.
abbrev pub reloc_head : List ℕ → ℕ → ℕ → ℕ → List ℕ
reloc_head name size target count = 0 ∷ u32 size ++ sized name ++ u32 target ++ u32 count

abbrev pub piece_bytes : Piece → List ℕ
piece_bytes (Front t) = front_of t.now
piece_bytes (Head id size count) = head_bytes id size count
piece_bytes (Part kind p) = part_spelled kind p
piece_bytes (Linking t) = linking_section t.now
piece_bytes (RelocHead name size target count) = reloc_head name.now size target count
piece_bytes (Relocs from len p) = part_entries from p

abbrev pub pieces_bytes : List Piece → List ℕ
pieces_bytes qs = flat_map piece_bytes qs

-- How many bytes it has.
abbrev pub piece_len : Piece → ℕ
piece_len (Front t) = length (front_of t.now)
piece_len (Head id size count) = length (head_bytes id size count)
piece_len (Part kind p) = part_len kind p
piece_len (Linking t) = length (linking_section t.now)
piece_len (RelocHead name size target count) = length (reloc_head name.now size target count)
piece_len (Relocs from len p) = length (part_entries from p)

-- Whether a relocation's place is a number of 32 bits.
abbrev pub entry_fits : ℕ → Reloc → Bool
entry_fits from x = nat_lt (from + x.offset) (2 ^ 32)

-- Whether a part's windows lie in it, and relocations have places of 32 bits and entries of the length that is told.
abbrev pub fits : Piece → Bool
fits (Front t) = true
fits (Head id size count) = true
fits (Part kind p) = part_fits p
fits (Linking t) = true
fits (RelocHead name size target count) = true
fits (Relocs from len p) = list_all (entry_fits from) (relocs_of p) && (len == length (part_entries from p))

abbrev pub Fit : List Piece → Type 0
Fit qs = list_all fits qs ≡ true

abbrev pub pieces_len : List Piece → ℕ
pieces_len qs = sum_by piece_len qs

-- Where each begins.
abbrev pub starts_from : ℕ → List Piece → List ℕ
starts_from at [] = []
starts_from at (q ∷ qs) = at ∷ starts_from (at + piece_len q) qs

-- ---- which pieces there are

abbrev pub part_pieces : PartKind → List Lent → List Piece
part_pieces kind ps = map (Part kind) ps

-- The relocations of parts that stand in their section from a place on.
abbrev pub reloc_pieces : PartKind → ℕ → List Lent → List Piece
reloc_pieces kind at [] = []
reloc_pieces kind at (p ∷ ps) =
    Relocs (at + head_len kind p) (length (part_entries (at + head_len kind p) p)) p ∷ reloc_pieces kind (at + head_len kind p + length p.bytes.now) ps

-- ---- runs

-- The piece at which a run begins: each run has its share of the bytes, as far as pieces allow that.
abbrev pub run_first : List ℕ → ℕ → ℕ → ℕ → ℕ
run_first starts len width run = if nat_le width run then length starts else below (len / width * run) starts

-- Where the run begins.
abbrev pub run_start : List Piece → ℕ → ℕ → ℕ
run_start qs width run = pieces_len (take (run_first (starts_from 0 qs) (pieces_len qs) width run) qs)

-- The pieces of a run.
abbrev pub run_pieces : List Piece → ℕ → ℕ → List Piece
run_pieces qs width run =
    slice_range qs (run_first (starts_from 0 qs) (pieces_len qs) width run) (run_first (starts_from 0 qs) (pieces_len qs) width (run + 1))
