-- Ranks of definitions: the lesser wins.
use Rattle.std.specs.Prelude.{◌≡◌, ◌⊎◌, ℕ, ◌+◌, ◌*◌, ◌^◌, ◌<◌, List}
use Rattle.least_race.specs.declared.party.Offer.{Offer}
use Rattle.least_race.specs.Jobs.{Job, IsItem}

-- a definition by its class (0 strong, 1 weak, 2 linker-made datum), its input, and its place among the input's symbols
abbrev pub rank_of : ℕ → ℕ → ℕ → ℕ
rank_of class input symbol = class * 2 ^ 56 + input * 2 ^ 32 + symbol

-- the parts that a rank is made of
pub record IsParts (c i s : ℕ) : Type 0 where
  pub class : c < 3
  pub input : i < 2 ^ 20
  pub symbol : s < 2 ^ 32

-- the number is the rank of some definition
abbrev pub IsRank : ℕ → Type 0
IsRank n = (class : ℕ) × (input : ℕ) × (symbol : ℕ) × IsParts class input symbol × (n ≡ rank_of class input symbol)

-- each offer of the jobs is such a rank
abbrev pub RanksMade : List Job → Type 0
RanksMade jobs = (job item : ℕ) (o : Offer) → IsItem jobs job item o → IsRank o.rank

-- the first comes before the second by class, then by input, then by symbol
abbrev pub Before : ℕ → ℕ → ℕ → ℕ → ℕ → ℕ → Type 0
Before a i s b j t = (a < b) ⊎ ((a ≡ b) × ((i < j) ⊎ ((i ≡ j) × (s < t))))

-- ranks are in this order
abbrev pub RanksByParts : Type 0
RanksByParts = (a i s b j t : ℕ) → IsParts a i s → IsParts b j t → (Before a i s b j t → rank_of a i s < rank_of b j t) × (rank_of a i s < rank_of b j t → Before a i s b j t)

-- no two definitions have one rank
abbrev pub RanksDiffer : Type 0
RanksDiffer = (a i s b j t : ℕ) → IsParts a i s → IsParts b j t → rank_of a i s ≡ rank_of b j t → (a ≡ b) × (i ≡ j) × (s ≡ t)
