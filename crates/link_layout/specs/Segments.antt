-- The live data segments, as the data show them.
use Rattle.std.specs.Prelude.{ℕ, ◌==◌, Bool, ◌&&◌, List, [], ◌∷◌, filter, length, slice_set}
use Rattle.std.specs.List.{list_all}
use Rattle.link_program.specs.memory_layout.declared.rules.SegmentShape.{SegmentShape}
use Rattle.link_program.specs.image_emit.Bytes.{file_part}
use Rattle.link_program.specs.declared.named.Named.{Named}
use Rattle.link_program.specs.declared.part.Content.{Content}
use Rattle.link_program.specs.declared.part.Content.TheVariants as contents
use Rattle.link_program.specs.declared.part.Part.{Part}
use Rattle.link_program.specs.declared.program.Tables.{Tables}
use Rattle.link_program.specs.Look.{part_at, row_at}

abbrev pub is_segment_at : Tables → ℕ → Bool
is_segment_at t n = (part_at t n).chunk.kind == 1

-- The numbers of the data segments among these parts.
abbrev pub segment_numbers : Tables → List ℕ → List ℕ
segment_numbers t live = filter (is_segment_at t) live

abbrev pub align_of : Content → ℕ
align_of (contents.Function number) = 0
align_of (contents.Segment align flags) = align
align_of (contents.Global kind value) = 0
align_of contents.Made = 0

-- A segment is zero where all its bytes are 0 and no window lies in it.
abbrev pub shape_by : List (List ℕ) → Part → List Named → SegmentShape
shape_by files part row = record {
  len = part.source.span.len;
  align = align_of part.content;
  zero = (length row == 0) && list_all (λ b. b == 0) (file_part files part.source);
}

abbrev pub shape_at : Tables → List (List ℕ) → ℕ → SegmentShape
shape_at t files n = shape_by files (part_at t n) (row_at t n)

-- ---- columns

-- The column with each of these values at its place.
abbrev pub set_each : {A : Type 0} → List ℕ → List A → List A → List A
set_each [] xs column = column
set_each (n ∷ ns) [] column = column
set_each (n ∷ ns) (x ∷ xs) column = set_each ns xs (slice_set column n x)
