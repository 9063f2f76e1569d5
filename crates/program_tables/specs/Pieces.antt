-- The pieces that workers make.
use Rattle.std.specs.Prelude.{◌≡◌, ℕ, ◌+◌, ◌-◌, ◌<◌, false, List, [], length, slice_get, Some}
use Rattle.program_tables.specs.declared.pieces.Piece.{Piece}
use Rattle.program_tables.specs.declared.view.Lookups.{Lookups}
use Rattle.program_tables.specs.Rows.{rows_from}
use Rattle.program_tables.specs.Gains.{Gains}
use Rattle.wl_rows.specs.Ranges.{first_at}

-- no part
abbrev pub no_piece : Piece
no_piece = record { parts = []; named = []; is_short = false }

-- The first of these pieces, unless it is short now, has more parts than before by those of the objects from one up to another.
abbrev pub IsGrown : Lookups → ℕ → ℕ → List Piece → List Piece → Type 0
IsGrown l from to old new =
    (p q : Piece) → slice_get old 0 ≡ Some p → slice_get new 0 ≡ Some q → q.is_short ≡ false → Gains (rows_from l from (to - from)) p q

-- Each of these pieces, unless it is short now, has more parts than before by those of its worker's objects.
pub record AreGrown (l : Lookups) (cuts : List ℕ) (count : ℕ) (old new : List Piece) : Type 0 where
  pub same : length new ≡ length old
  pub each : (k : ℕ) (p q : Piece) → slice_get old k ≡ Some p → slice_get new k ≡ Some q → q.is_short ≡ false
      → Gains (rows_from l (first_at cuts count k) (first_at cuts count (k + 1) - first_at cuts count k)) p q
