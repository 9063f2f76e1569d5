-- The least ranks that jobs offer.
use Rattle.std.specs.Prelude.{◌≢◌, ℕ, ◌<◌, ◌==◌, cond, List, Some, None}
use Rattle.std.specs.declared.option.Option.{Option}
use Rattle.least_race.specs.declared.party.Offer.{Offer}
use Rattle.least_race.specs.Jobs.{Job, IsItem, IsOffered, IsAtMostOffered}

-- a word of the race, where 2^64 - 1 says that no rank was offered
abbrev pub offered : ℕ → Option ℕ
offered n = cond (n == 18446744073709551615) None (Some n)

-- the ranks that are offered are below the number
abbrev pub RanksBelow : ℕ → List Job → Type 0
RanksBelow top jobs = (job item : ℕ) (o : Offer) → IsItem jobs job item o → o.rank < top

-- the least rank that the jobs offer for the word i, or none where they offer none
abbrev pub IsLeastOffer : List Job → ℕ → Option ℕ → Type 0
IsLeastOffer jobs i None = (job item : ℕ) (o : Offer) → IsItem jobs job item o → o.word ≢ i
IsLeastOffer jobs i (Some m) = IsAtMostOffered jobs i m × IsOffered jobs i m
