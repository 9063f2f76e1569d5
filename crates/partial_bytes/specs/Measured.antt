-- How long the object is, and what is known of it before it is written.
use Rattle.std.specs.Prelude.{◌≡◌, ℕ, ◌+◌, List, [], ◌∷◌, length, flat_map, Option, Some, None, slice_get, slice_index_or}
use Rattle.leb_codec.specs.Shortest.{u32}
use Rattle.image_emit.specs.Put.{capped}
use Rattle.partial_rules.specs.Relocatable.{reloc, relocatable_bytes}
use Rattle.partial_bytes.specs.declared.tree.Part.{Part}
use Rattle.partial_bytes.specs.declared.tree.Tree.{Tree}
use Rattle.partial_bytes.specs.declared.part.PartKind.{PartKind}
use Rattle.partial_bytes.specs.declared.part.PartKind.TheVariants.{Body, Segment}
use Rattle.partial_bytes.specs.declared.measuring.SectionSize.{SectionSize}
use Rattle.partial_bytes.specs.declared.measuring.Measured.{Measured}
use Rattle.partial_bytes.specs.Told.{tree_told}
use Rattle.partial_bytes.specs.Written.{head_len, parts_len, payload_len, part_entries, relocs_at, relocs_in}

-- These are the sizes of a section of these parts, and of their relocations.
pub record IsSized (kind : PartKind) (parts : List Part) (s : SectionSize) : Type 0 where
  pub payload : s.payload ≡ payload_len kind parts
  pub count : s.count ≡ length (relocs_in kind parts)
  pub entries : s.entries ≡ length (flat_map reloc (relocs_in kind parts))

-- What is counted of the parts before these, with what these have, is what all have.
abbrev pub AddsUp : PartKind → List Part → List Part → ℕ → ℕ → ℕ → Type 0
AddsUp kind all left at count entries =
    (at + parts_len kind left ≡ payload_len kind all)
    × (count + length (relocs_at kind at left) ≡ length (relocs_in kind all))
    × (entries + length (flat_map reloc (relocs_at kind at left)) ≡ length (flat_map reloc (relocs_in kind all)))

-- How many bytes the entries of a part have, so much later, as far as 64 bits hold that.
abbrev pub entries_len : ℕ → Part → ℕ
entries_len from p = capped (length (part_entries from p))

-- Where the bytes of each part begin, of parts that stand in their section from a place on.
abbrev pub froms_at : PartKind → ℕ → List Part → List ℕ
froms_at kind at [] = []
froms_at kind at (p ∷ ps) = (at + head_len kind p) ∷ froms_at kind (at + head_len kind p + length p.bytes.now) ps

-- How many bytes the entries of each of them have.
abbrev pub entry_lens : PartKind → ℕ → List Part → List ℕ
entry_lens kind at [] = []
entry_lens kind at (p ∷ ps) = entries_len (at + head_len kind p) p ∷ entry_lens kind (at + head_len kind p + length p.bytes.now) ps

-- The same of all parts of a section, which stand behind their number.
abbrev pub lens_in : PartKind → List Part → List ℕ
lens_in kind ps = entry_lens kind (length (u32 (length ps))) ps

-- The same of the part of a number, by where the bytes of parts begin.
abbrev pub len_by : Option Part → ℕ → ℕ
len_by (Some p) from = entries_len from p
len_by None from = 0

abbrev pub len_there : List Part → List ℕ → ℕ → ℕ
len_there ps froms number = len_by (slice_get ps number) (slice_index_or froms number 0)

-- This is the length of the object, these are the sizes of its sections, and so many bytes have the entries of each part.
pub record IsMeasured (t : Tree) (m : Measured) : Type 0 where
  pub len : m.len ≡ length (relocatable_bytes (tree_told t))
  pub bodies : IsSized Body t.bodies.now m.bodies
  pub segments : IsSized Segment t.segments.now m.segments
  pub body_lens : m.body_lens ≡ lens_in Body t.bodies.now
  pub segment_lens : m.segment_lens ≡ lens_in Segment t.segments.now
