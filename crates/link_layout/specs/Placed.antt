-- When the data tell where the segments of a program stand.
use Rattle.std.specs.Prelude.{◌≡◌, ℕ, Bool, false, not, List, map, replicate, position, slice_index_or, unwrap_or, Some, None, Result, Ok, Err, pos}
use Rattle.std.specs.List.{list_any}
use Rattle.link_program.specs.wl_base.declared.layout_error.LayoutError.{LayoutError}
use Rattle.link_program.specs.wl_base.declared.layout_error.LayoutError.TheVariants.{Overflow, OutOfMemory}
use Rattle.link_program.specs.mark_bits.declared.chunk.Chunk.{Chunk}
use Rattle.link_program.specs.memory_layout.Memory.{Passed, places, memory_overflow, memory_of}
use Rattle.link_program.specs.memory_layout.declared.rules.MemoryRules.{MemoryRules}
use Rattle.link_program.specs.memory_layout.declared.rules.SegmentShape.{SegmentShape}
use Rattle.link_program.specs.made_symbols.declared.mode.Mode.{Mode}
use Rattle.link_program.specs.link_rules.Program.{Program, Part, same_chunk}
use Rattle.link_program.specs.link_rules.ModeOf.{mode_of}
use Rattle.link_program.specs.link_rules.Values.{rules_of, segments, solid_segments, shapes}
use Rattle.link_layout.specs.declared.placing.Placed.{Placed}
use Rattle.link_layout.specs.Segments.{set_each}

-- The address of a chunk among segments that stand at these addresses; of any other chunk it is that of the first segment, or 0.
abbrev pub address_among : List Chunk → List ℕ → Chunk → ℕ
address_among segments addresses c = slice_index_or addresses (unwrap_or (position (same_chunk c) segments) 0) 0

abbrev pub chunks_of : List Part → List Chunk
chunks_of parts = map (λ part. part.chunk) parts

-- Whether it is a live segment that isn't zero.
abbrev pub is_solid : Program → List Part → Chunk → Bool
is_solid p parts c = list_any (same_chunk c) (chunks_of (solid_segments p parts))

-- The places are those of the live parts, and each column has a value for each part of the program.
pub record IsPlacedIn (mode : Mode) (p : Program) (parts : List Part) (d : Placed) : Type 0 where
  pub places : d.places ≡ places (rules_of mode p.plan) (shapes p parts)
  pub addresses : d.addresses ≡ map (λ part. address_among (chunks_of (segments parts)) d.places.addresses part.chunk) p.parts
  pub solid : d.solid ≡ map (λ part. is_solid p parts part.chunk) p.parts

-- The answer of a call: where nothing passes its limit the segments are placed; else the first number that passes; or want of memory.
abbrev pub AnswersPlacedIn : Mode → Program → List Part → Result Placed LayoutError → Type 0
AnswersPlacedIn mode p parts (Ok d) = (memory_overflow (rules_of mode p.plan) (shapes p parts) ≡ None) × IsPlacedIn mode p parts d
AnswersPlacedIn mode p parts (Err (Overflow what needed)) =
    (x : Passed) × (memory_overflow (rules_of mode p.plan) (shapes p parts) ≡ Some x) × (what ≡ x.what) × (needed ≡ pos x.needed)
AnswersPlacedIn mode p parts (Err OutOfMemory) = Unit {0}

-- The same of the mode that the program's plan asks for.
abbrev pub IsPlaced : Program → List Part → Placed → Type 0
IsPlaced p parts d = IsPlacedIn (mode_of p.plan) p parts d

abbrev pub AnswersPlaced : Program → List Part → Result Placed LayoutError → Type 0
AnswersPlaced p parts result = AnswersPlacedIn (mode_of p.plan) p parts result

-- ---- by the data alone

-- The columns of so many parts, of which these numbers are segments of these shapes.
pub record AreColumns (numbers : List ℕ) (shapes : List SegmentShape) (count : ℕ) (d : Placed) : Type 0 where
  pub addresses : d.addresses ≡ set_each numbers d.places.addresses (replicate count (slice_index_or d.places.addresses 0 0))
  pub solid : d.solid ≡ set_each numbers (map (λ s. not s.zero) shapes) (replicate count false)

abbrev pub AnswersColumns : MemoryRules → List ℕ → List SegmentShape → ℕ → Result Placed LayoutError → Type 0
AnswersColumns rules numbers shapes count (Ok d) = (memory_of rules shapes ≡ Ok d.places) × AreColumns numbers shapes count d
AnswersColumns rules numbers shapes count (Err (Overflow what needed)) = memory_of rules shapes ≡ Err (Overflow what needed)
AnswersColumns rules numbers shapes count (Err OutOfMemory) = Unit {0}
