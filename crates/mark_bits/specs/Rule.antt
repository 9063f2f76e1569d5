-- The marks on a table.
use Rattle.std.specs.Prelude.{◌≡◌, ℕ, ◌%◌, ◌≤◌, List}
use Rattle.std.specs.Int.{bit_at}
use Rattle.atomic_table.specs.Table.{State, Me, Step}
use Rattle.mark_bits.specs.declared.party.Party.{Party}
use Rattle.mark_bits.specs.Words.{times}
use Rattle.mark_bits.specs.Marks.{with_mark, Marks, Event, end, opening_marks, AllFit}

-- the marks that a table is
abbrev pub marks_of : State ℕ Party → Marks
marks_of s = record { words = s.words; parties = s.views }

-- the table is what some list of events has made of the marks
pub record MarkRule (width chunks : ℕ) (s : State ℕ Party) : Type 0 where
  pub some_width : 1 ≤ width
  pub small : width ≤ 64
  pub events : List Event
  pub fit : AllFit chunks (opening_marks width chunks) events
  pub reached : end (opening_marks width chunks) events ≡ marks_of s

-- what a mark of the chunk c tells
abbrev pub Marked : ℕ → Step ℕ → Me ℕ Party → ℕ → Me ℕ Party → Type 0
Marked c s v n w = (w ≡ (with_mark v.0 c (bit_at n (c % 64)), v.1)) × ((x : ℕ) → times x w.0.first ≤ 1)

-- what a load tells
abbrev pub Looked : Step ℕ → Me ℕ Party → ℕ → Me ℕ Party → Type 0
Looked s v n w = (w ≡ v) × ((x : ℕ) → times x w.0.first ≤ 1)
