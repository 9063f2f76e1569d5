-- What several workers noted, joined.
use Rattle.std.specs.Prelude.{◌≡◌, ℕ, ◌+◌, nat_eq, Bool, true, ◌||◌, List, [], ◌∷◌, fold, length, slice_get, slice_set, slice_range, if◌then◌else◌, Option, Some, None}
use Rattle.indexmap.specs.IndexSet.{insert_all}
use Rattle.link_program.specs.declared.keys.GotKey.{GotKey}
use Rattle.link_program.specs.declared.program.Tables.{Tables}
use Rattle.wl_rows.specs.Ranges.{first_at}
use Rattle.link_keys.specs.Codes.{same_code}
use Rattle.link_keys.specs.Noted.{Noted, with_read, noted_parts, nothing_noted}

-- The flag at a place is set, where it is to be.
abbrev pub flagged_if : List Bool → ℕ → Bool → List Bool
flagged_if flags at is_set = if is_set then slice_set flags at true else flags

-- Flags of which each is set where it, or the one at its place, is set.
abbrev pub either_flag : List Bool → List Bool → List Bool
either_flag [] more = []
either_flag (flag ∷ flags) [] = flag ∷ flags
either_flag (flag ∷ flags) (other ∷ more) = (flag || other) ∷ either_flag flags more

-- Cells that are read one after another.
abbrev pub with_all_read : Noted → List GotKey → Noted
with_all_read m keys = fold with_read m keys

-- What was noted, and then what was noted of more, field by field: the flags of either; and the functions, the types and the cells of both,
-- those of the second behind those of the first that it has more.
abbrev pub joined : Noted → Noted → Noted
joined m more =
    with_all_read (record m {
      imports = either_flag m.imports more.imports;
      stubs = either_flag m.stubs more.stubs;
      taken = insert_all same_code m.taken more.taken;
      windows = insert_all nat_eq m.windows more.windows;
    }) more.cells

-- Where one was refused memory there is nothing.
abbrev pub both_joined : Option Noted → Option Noted → Option Noted
both_joined None more = None
both_joined (Some m) None = None
both_joined (Some m) (Some more) = Some (joined m more)

abbrev pub joined_all : List (Option Noted) → Option Noted
joined_all [] = None
joined_all (first ∷ more) = fold both_joined first more

-- The first of these slots has what live parts ask for, unless memory was refused.
abbrev pub IsNoted : Tables → ℕ → ℕ → List ℕ → List (Option Noted) → Type 0
IsNoted t imports names live slots = (m : Noted) → slice_get slots 0 ≡ Some (Some m) → m ≡ noted_parts t (nothing_noted imports names) live

-- Each of these slots has what its worker's live parts ask for, unless memory was refused to it. There is one for each worker.
pub record AreNoted (t : Tables) (imports names : ℕ) (live cuts : List ℕ) (count : ℕ) (slots : List (Option Noted)) : Type 0 where
  pub long : length slots ≡ length cuts + 1
  pub each : (k : ℕ) (m : Noted) → slice_get slots k ≡ Some (Some m)
      → m ≡ noted_parts t (nothing_noted imports names) (slice_range live (first_at cuts count k) (first_at cuts count (k + 1)))
