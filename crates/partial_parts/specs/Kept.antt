-- The kept parts of objects by kind, one part after another.
use Rattle.std.specs.Prelude.{◌≡◌, ℕ, ◌<◌, ◌==◌, false, List, [], ◌∷◌, ◌++◌, map, fold, length, position, slice_get, slice_index_or, if◌then◌else◌, Option, Some, None}
use Rattle.link_program.specs.mark_bits.declared.chunk.Chunk.{Chunk}
use Rattle.link_program.specs.link_rules.Program.{Program, same_chunk}
use Rattle.link_program.specs.declared.part.Part.{Part}
use Rattle.partial_rules.specs.Partial.{kept, place_of}

-- The numbers of the parts of each kind, and of each part its place among those of its kind.
pub record Kept : Type 0 where
  pub functions : List ℕ
  pub segments : List ℕ
  pub globals : List ℕ
  pub places : List ℕ

abbrev pub none_kept : Kept
none_kept = record { functions = []; segments = []; globals = []; places = [] }

abbrev pub passed : Kept → Kept
passed k = record k { places = k.places ++ 0 ∷ [] }

abbrev pub a_function : Kept → Kept
a_function k = record k { functions = k.functions ++ length k.places ∷ []; places = k.places ++ length k.functions ∷ [] }

abbrev pub a_segment : Kept → Kept
a_segment k = record k { segments = k.segments ++ length k.places ∷ []; places = k.places ++ length k.segments ∷ [] }

abbrev pub a_global : Kept → Kept
a_global k = record k { globals = k.globals ++ length k.places ∷ []; places = k.places ++ length k.globals ∷ [] }

abbrev pub by_kind : Kept → ℕ → Kept
by_kind k kind = if kind == 0 then a_function k else if kind == 1 then a_segment k else if kind == 2 then a_global k else passed k

-- The linker's parts aren't kept.
abbrev pub kept_chunk : Kept → Chunk → Kept
kept_chunk k c = if c.input == 0 then passed k else by_kind k c.kind

abbrev pub kept_parts : List Part → Kept
kept_parts parts = fold kept_chunk none_kept (map (λ part. part.chunk) parts)

-- ---- what they tell of a program

-- The place that is noted of the part of a number.
abbrev pub place_at : Kept → Option ℕ → ℕ
place_at k None = 0
place_at k (Some n) = slice_index_or k.places n 0

-- The place of a chunk by the chunks of all parts.
abbrev pub place_in : Kept → List Chunk → Chunk → ℕ
place_in k chunks c = if c.input == 0 then 0 else place_at k (position (same_chunk c) chunks)

pub record AreKept (p : Program) (k : Kept) : Type 0 where
  pub functions : map (slice_get p.parts) k.functions ≡ map Some (kept p 0)
  pub segments : map (slice_get p.parts) k.segments ≡ map Some (kept p 1)
  pub globals : map (slice_get p.parts) k.globals ≡ map Some (kept p 2)
  -- The place of a function, a segment or a global by its number.
  pub places : (c : Chunk) → (c.input == 0) ≡ false → c.kind < 3 → place_at k (position (same_chunk c) (map (λ part. part.chunk) p.parts)) ≡ place_of p c.kind c
