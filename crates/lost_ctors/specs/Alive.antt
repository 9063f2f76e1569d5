-- How many parts of each input are live, as far as it matters.
use Rattle.std.specs.Prelude.{◌≡◌, ℕ, ◌==◌, Bool, true, false, not, List, [], ◌∷◌, filter, if◌then◌else◌, Option, Some, None, slice_get, slice_index_or, slice_set}
use Rattle.std.specs.List.{list_any}
use Rattle.link_marks.specs.link_program.declared.program.Tables.{Tables}
use Rattle.link_marks.specs.link_program.Look.{part_at}
use Rattle.lost_ctors.specs.declared.alive.Alive.{Alive}
use Rattle.lost_ctors.specs.declared.alive.Alive.TheVariants.{Nothing, Alone, Many}

abbrev pub input_of : Tables → ℕ → ℕ
input_of t n = (part_at t n).chunk.input

abbrev pub with_part : Alive → ℕ → Alive
with_part Nothing n = Alone n
with_part (Alone other) n = if other == n then Alone other else Many
with_part Many n = Many

-- whether a part isn't this one
abbrev pub is_other : Option ℕ → ℕ → Bool
is_other None n = true
is_other (Some own) n = not (own == n)

abbrev pub lives_beside : Alive → Option ℕ → Bool
lives_beside Nothing own = false
lives_beside (Alone n) own = is_other own n
lives_beside Many own = true

abbrev pub lives : Alive → Bool
lives Nothing = false
lives (Alone n) = true
lives Many = true

-- It tells of these parts whether one is there beside any.
abbrev pub Sums : Alive → List ℕ → Type 0
Sums alive ns = (own : Option ℕ) → lives_beside alive own ≡ list_any (is_other own) ns

-- those of the parts that are of an input
abbrev pub parts_of : Tables → ℕ → List ℕ → List ℕ
parts_of t input ns = filter (λ n. input_of t n == input) ns

abbrev pub alive_of : List Alive → ℕ → Alive
alive_of alive input = slice_index_or alive input Nothing

-- By input, the column tells of the live parts.
abbrev pub AreAlive : Tables → List ℕ → List Alive → Type 0
AreAlive t live alive = (input : ℕ) → Sums (alive_of alive input) (parts_of t input live)

-- The column with one part more, of an input that has a place there.
abbrev pub kept_count : List Alive → ℕ → ℕ → Option Alive → List Alive
kept_count column input n None = column
kept_count column input n (Some alive) = slice_set column input (with_part alive n)

abbrev pub count_part : Tables → List Alive → ℕ → List Alive
count_part t column n = kept_count column (input_of t n) n (slice_get column (input_of t n))

-- the same with all of these, one after another
abbrev pub count_parts : Tables → List Alive → List ℕ → List Alive
count_parts t column [] = column
count_parts t column (n ∷ ns) = count_parts t (count_part t column n) ns
