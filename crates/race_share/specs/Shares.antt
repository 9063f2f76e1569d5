-- What a share of a race knows.
use Rattle.std.specs.Prelude.{◌≡◌, ℕ, ◌+◌, ◌^◌, ◌<◌, Bool, true, false, List, [], ◌++◌}
use Rattle.least_race.specs.declared.party.Offer.{Offer}
use Rattle.least_race.specs.declared.party.Party.{Party}
use Rattle.least_race.specs.Jobs.{offers_from}
use Rattle.least_race.specs.Seats.{SeatView, RaceView, IsSeatOf}

-- nothing but proposals was added
pub record Adds (old new : Party) (os : List Offer) : Type 0 where
  pub width : new.width ≡ old.width
  pub claims : new.claims ≡ old.claims
  pub passes : new.passes ≡ old.passes
  pub ended : new.ended ≡ old.ended
  pub proposals : new.proposals ≡ old.proposals ++ os

-- a party that has done nothing
pub record IsFresh (v : Party) : Type 0 where
  pub claims : v.claims ≡ []
  pub passes : v.passes ≡ 0
  pub ended : v.ended ≡ false
  pub proposals : v.proposals ≡ []

pub record ShareView : Type 0 where
  pub race : RaceView
  pub first : ℕ
  pub width : ℕ
  pub done : Bool

pub record IsShare (r : RaceView) (s : SeatView) (start count : ℕ) (done : Bool) : Type 0 where
  pub own : IsSeatOf r s
  pub width : s.party.width ≡ count
  pub room : start + count < 2 ^ 32
  pub exact : s.party.proposals ≡ offers_from r.jobs s.party.claims
  pub fresh : done ≡ false → IsFresh s.party
  pub worked : done ≡ true → s.party.passes ≡ count
