-- What contracts see of the marks and of a seat.
use Rattle.std.specs.Prelude.{◌≡◌, ℕ, ◌<◌, ◌≤◌}
use Rattle.atomic_table.specs.Seated.{TableId}
use Rattle.mark_bits.specs.declared.party.Party.{Party}
use Rattle.mark_bits.specs.Words.{times, Among}

-- which marks the seat is of, and what it has marked
pub record SeatView : Type 0 where
  pub marks : TableId
  pub party : Party

-- which marks these are, the width that all seats have together, and how many chunks there are
pub record BitsView : Type 0 where
  pub marks : TableId
  pub width : ℕ
  pub chunks : ℕ

-- The seat is one of these marks. So its chunks are below the count, it marked what it marked first, and it marked each first at most once
pub record IsSeatOf (b : BitsView) (s : SeatView) : Type 0 where
  pub own : s.marks ≡ b.marks
  pub low : (c : ℕ) → Among c s.party.marked → c < b.chunks
  pub known : (c : ℕ) → Among c s.party.first → Among c s.party.marked
  pub once : (c : ℕ) → times c s.party.first ≤ 1
