-- What a share of a round knows.
use Rattle.std.specs.Prelude.{◌≡◌, ℕ, ◌+◌, ◌-◌, ◌*◌, ◌/◌, ◌≤◌, ◌==◌, Bool, false, cond, List, [], ◌++◌, length, slice_range}
use Rattle.mark_bits.specs.declared.party.Party.{Party}
use Rattle.mark_bits.specs.Seats.{SeatView, BitsView, IsSeatOf}
use Rattle.live_mark.specs.Asks.{asks, IsPlan}

-- A round: the marks, what the chunks refer to, whether it is the first, its places, the number of parts, and the party that began it
pub record Round : Type 0 where
  pub bits : BitsView
  pub targets : List (List ℕ)
  pub rooting : Bool
  pub places : List ℕ
  pub parts : ℕ
  pub before : Party

abbrev pub round : BitsView → List (List ℕ) → Bool → List ℕ → ℕ → Party → Round
round bits targets rooting places parts before = record { bits = bits; targets = targets; rooting = rooting; places = places; parts = parts; before = before }

-- all that the places of a round ask for
abbrev pub asked_of : Round → List ℕ
asked_of r = asks r.rooting r.targets r.places

-- where the part k begins
abbrev pub cut : ℕ → ℕ → ℕ → ℕ
cut places parts k = places * k / parts

-- the chunks that the parts from `first` on ask for
abbrev pub asked_in : Round → ℕ → ℕ → List ℕ
asked_in r first width = asks r.rooting r.targets (slice_range r.places (cut (length r.places) r.parts first) (cut (length r.places) r.parts (first + width)))

-- what the first part of a round has from before, and the others haven't
abbrev pub if_first : ℕ → List ℕ → List ℕ
if_first start xs = cond (start == 0) xs []

pub record ShareView : Type 0 where
  pub round : Round
  pub first : ℕ
  pub width : ℕ
  pub done : Bool

-- what a round asks for to be run by its shares
pub record IsRound (r : Round) : Type 0 where
  pub some : 1 ≤ r.parts
  pub few : r.parts ≤ 64
  pub wide : r.parts ≤ r.before.width
  pub plan : IsPlan r.bits r.rooting r.targets r.places

-- A share has the parts from `start` on. The first one also has what the seat had before, and the width that no part needs
pub record IsShare (r : Round) (s : SeatView) (fresh : List ℕ) (refused : Bool) (start count : ℕ) (done : Bool) : Type 0 where
  pub round : IsRound r
  pub own : IsSeatOf r.bits s
  pub some : 1 ≤ count
  pub room : start + count ≤ r.parts
  pub wide : s.party.width ≡ count + cond (start == 0) (r.before.width - r.parts) 0
  pub marked : s.party.marked ≡ if_first start r.before.marked ++ cond done (asked_in r start count) []
  pub first : refused ≡ false → s.party.first ≡ if_first start r.before.first ++ fresh

-- These chunks were marked, and where nothing was refused those that were marked first were noted
pub record Adds (old new : SeatView) (asked was now : List ℕ) (refused' refused : Bool) : Type 0 where
  pub width : new.party.width ≡ old.party.width
  pub marked : new.party.marked ≡ old.party.marked ++ asked
  pub still : refused ≡ false → refused' ≡ false
  pub first : refused ≡ false → (xs : List ℕ) → old.party.first ≡ xs ++ was → new.party.first ≡ xs ++ now
