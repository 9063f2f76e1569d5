-- The race on a table of words: word 0 is the next number, and the words of the race follow. The views of seats are the parties.
use Rattle.std.specs.Prelude.{◌≡◌, ℕ, ◌+◌, ◌-◌, ◌^◌, ◌<◌, ◌≤◌, min, List, length, slice_index, drop}
use Rattle.atomic_table.specs.Table.{State, Me, Step}
use Rattle.least_race.specs.declared.party.Party.{Party}
use Rattle.least_race.specs.Race.{Race, Event, end, start, offer, times, least, claimed, proposed}
use Rattle.least_race.specs.Schedule.{AllFit}

-- the race that a table is
abbrev pub race_of : State ℕ Party → Race
race_of s = record { next = slice_index s.words 0; words = drop 1 s.words; parties = s.views }

-- the table is what some list of events has made of the race
pub record LeastRule (width jobs : ℕ) (base : List ℕ) (s : State ℕ Party) : Type 0 where
  pub some_width : 1 ≤ width
  pub small : width ≤ 64
  pub few : jobs < 2 ^ 31
  pub wide : length s.words ≡ length base + 1
  pub events : List Event
  pub fit : AllFit (length base) (start width jobs base) events
  pub reached : end (start width jobs base) events ≡ race_of s

-- what a claim tells: the number drawn is greater than those claimed before, which are no more than there are jobs below it
abbrev pub Claims : Step ℕ → Me ℕ Party → ℕ → Me ℕ Party → Type 0
Claims s v n w = (w ≡ (claimed v.0 n, v.1)) × ((x : ℕ) → 0 < times x v.0.claims → x < n) × (length v.0.claims ≤ min n v.0.jobs)

-- what a proposal tells: the value found is at most the base and what this party proposed there before
abbrev pub Proposes : Step ℕ → Me ℕ Party → ℕ → Me ℕ Party → Type 0
Proposes s v n w = let i = s.word - 1 in (w ≡ (proposed v.0 (offer i s.first) n, v.1)) × (n ≤ least i (slice_index v.0.base i) v.0.proposals)
