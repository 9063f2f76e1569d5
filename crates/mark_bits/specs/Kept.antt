-- What holds at every moment of the marking.
use Rattle.std.specs.Prelude.{◌≡◌, ℕ, ◌+◌, ◌<◌, List, [], ◌∷◌, length}
use mathlib.Core.Option.{some}
use lib.ListN.{get_elem?}
use Rattle.mark_bits.specs.declared.party.Party.{Party}
use Rattle.mark_bits.specs.Words.{Among, times, bit_of, word_count}
use Rattle.mark_bits.specs.Marks.{spent, Event, end, opening_marks, AllFit}

-- the sum of f over the parties
abbrev pub total : (Party → ℕ) → List Party → ℕ
total f [] = 0
total f (v ∷ vs) = f v + total f vs

-- What holds of one party: what it marked first it marked, this is below the count, and its bits are set
pub record IsParty (chunks : ℕ) (words : List ℕ) (v : Party) : Type 0 where
  pub known : (c : ℕ) → Among c v.first → Among c v.marked
  pub low : (c : ℕ) → Among c v.marked → c < chunks
  pub is_set : (c : ℕ) → Among c v.marked → bit_of words c ≡ 1
  pub idle : v.width ≡ 0 → v ≡ spent

-- The widths sum to the whole, and a bit says how often its chunk was marked first by all parties together. So a chunk is marked
-- first once at most, and its bit is set exactly where it was
pub record Kept (width chunks : ℕ) (words : List ℕ) (parties : List Party) : Type 0 where
  pub long : length words ≡ word_count chunks
  pub widths : total (λ v. v.width) parties ≡ width
  pub firsts : (c : ℕ) → total (λ v. times c v.first) parties ≡ bit_of words c
  pub each : (p : ℕ) (v : Party) → get_elem? parties p ≡ some v → IsParty chunks words v

-- so it is after all events that may happen
abbrev pub EveryMoment : Type 0
EveryMoment = (width chunks : ℕ) (es : List Event) → AllFit chunks (opening_marks width chunks) es → Kept width chunks (end (opening_marks width chunks) es).words (end (opening_marks width chunks) es).parties
