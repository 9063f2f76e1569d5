-- What holds of a race at every moment.
use Rattle.std.specs.Prelude.{◌≡◌, ℕ, ◌+◌, ◌-◌, ◌^◌, ◌<◌, ◌≤◌, min, false, List, [], ◌∷◌, length, slice_index}
use mathlib.Core.Option.{some}
use lib.ListN.{get_elem?}
use Rattle.least_race.specs.declared.party.Party.{Party}
use Rattle.least_race.specs.Race.{Race, times, once_below, least, spent}

-- the sum of f over the parties
abbrev pub total : (Party → ℕ) → List Party → ℕ
total f [] = 0
total f (v ∷ vs) = f v + total f vs

-- the least of the base and of f over the parties
abbrev pub lowest : ℕ → (Party → ℕ) → List Party → ℕ
lowest base f [] = base
lowest base f (v ∷ vs) = min (f v) (lowest base f vs)

-- a party has at most as many passes as its width, none before it has ended, and the race's bases and count of jobs; one without width is spent
pub record IsParty (jobs : ℕ) (base : List ℕ) (v : Party) : Type 0 where
  pub passes : v.passes ≤ v.width
  pub ended : v.ended ≡ false → v.passes ≡ 0
  pub same : 0 < v.width → (v.jobs ≡ jobs) × (v.base ≡ base)
  pub idle : v.width ≡ 0 → v ≡ spent

-- Claims are distinct and exactly the numbers below the lesser of the next number and the count of jobs: each of these is claimed once, and no other.
-- What the next number has above the count of jobs is the passes, so it can't wrap.
pub record Kept (width jobs : ℕ) (base : List ℕ) (next : ℕ) (words : List ℕ) (parties : List Party) : Type 0 where
  pub small : width ≤ 64
  pub few : jobs < 2 ^ 31
  pub long : length words ≡ length base
  pub widths : total (λ v. v.width) parties ≡ width
  pub claims : (x : ℕ) → total (λ v. times x v.claims) parties ≡ once_below x (min next jobs)
  pub drawn : total (λ v. length v.claims) parties ≡ min next jobs
  pub passes : total (λ v. v.passes) parties ≡ next - jobs
  pub least_is : (i : ℕ) → i < length base → slice_index words i ≡ lowest (slice_index base i) (λ v. least i (slice_index base i) v.proposals) parties
  pub each : (p : ℕ) (v : Party) → get_elem? parties p ≡ some v → IsParty jobs base v

abbrev pub KeptRace : ℕ → ℕ → List ℕ → Race → Type 0
KeptRace width jobs base r = Kept width jobs base r.next r.words r.parties
