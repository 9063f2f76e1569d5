-- Jobs and their offers.
use Rattle.std.specs.Prelude.{◌≡◌, ◌⊎◌, ℕ, ◌<◌, ◌≤◌, List, [], ◌∷◌, ◌++◌, map, length, slice_index_or, Some, None}
use Rattle.std.specs.declared.option.Option.{Option}
use Rattle.least_race.specs.declared.party.Offer.{Offer}

-- a job is its items, each an offer or none
abbrev pub Job : Type 0
Job = List (Option Offer)

-- the jobs have such an item, and it is the offer
abbrev pub IsItem : List Job → ℕ → ℕ → Offer → Type 0
IsItem jobs job item o = (job < length jobs) × (item < length (slice_index_or jobs job [])) × (slice_index_or (slice_index_or jobs job []) item None ≡ Some o)

-- each offer is for a word below the number
abbrev pub WordsBelow : ℕ → List Job → Type 0
WordsBelow names jobs = (job item : ℕ) (o : Offer) → IsItem jobs job item o → o.word < names

-- the jobs offer the rank m for the word i
abbrev pub IsOffered : List Job → ℕ → ℕ → Type 0
IsOffered jobs i m = (job : ℕ) × (item : ℕ) × (o : Offer) × IsItem jobs job item o × (o.word ≡ i) × (m ≡ o.rank)

-- they offer no lesser one
abbrev pub IsAtMostOffered : List Job → ℕ → ℕ → Type 0
IsAtMostOffered jobs i m = (job item : ℕ) (o : Offer) → IsItem jobs job item o → o.word ≡ i → m ≤ o.rank

-- m is the least of b and of all ranks that the jobs offer for the word i
abbrev pub IsLeastOf : List Job → ℕ → ℕ → ℕ → Type 0
IsLeastOf jobs i b m = (m ≤ b) × IsAtMostOffered jobs i m × ((m ≡ b) ⊎ IsOffered jobs i m)

-- the offers of a job, in order
abbrev pub offers_in : Job → List Offer
offers_in [] = []
offers_in (None ∷ xs) = offers_in xs
offers_in (Some o ∷ xs) = o ∷ offers_in xs

-- the offers of the jobs of these numbers, one job after another
abbrev pub offers_from : List Job → List ℕ → List Offer
offers_from jobs [] = []
offers_from jobs (c ∷ cs) = offers_in (slice_index_or jobs c []) ++ offers_from jobs cs

-- a job whose items are all offers
abbrev pub all_some : List Offer → Job
all_some os = map Some os
