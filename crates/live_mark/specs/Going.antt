-- What holds between two rounds.
use Rattle.std.specs.Prelude.{◌≡◌, ◌⊎◌, ℕ, ◌≤◌, List, [], length, slice_index_or}
use Rattle.mark_bits.specs.Words.{Among}
use Rattle.mark_bits.specs.Reach.{Reached}
use Rattle.mark_bits.specs.Seats.{SeatView, BitsView, IsSeatOf}

-- The frontier was marked first; what the other chunks that were marked first refer to was marked. So where the frontier is empty,
-- the marked chunks are those that the roots reach
pub record Going (b : BitsView) (targets : List (List ℕ)) (roots : List ℕ) (workers : ℕ) (s : SeatView) (frontier : List ℕ) : Type 0 where
  pub own : IsSeatOf b s
  pub wide : s.party.width ≡ workers
  pub few : length frontier ≤ length s.party.first
  pub ahead : (c : ℕ) → Among c frontier → Among c s.party.first
  pub sound : (c : ℕ) → Among c s.party.marked → Reached targets roots c
  pub rooted : (c : ℕ) → Among c roots → Among c s.party.marked
  pub closed : (c t : ℕ) → Among c s.party.first → Among t (slice_index_or targets c []) → Among t s.party.marked ⊎ Among c frontier
