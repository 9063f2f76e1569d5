-- Schedules of the race: lists of events, each allowed where it stands.
use Rattle.std.specs.Prelude.{◌≡◌, ◌≢◌, ℕ, ◌^◌, ◌<◌, ◌≤◌, min, false, List, [], ◌∷◌, length, slice_index}
use Rattle.std.specs.List.{Contains}
use Rattle.least_race.specs.declared.party.Offer.{Offer}
use Rattle.least_race.specs.Invariant.{total, KeptRace}
use Rattle.least_race.specs.Jobs.{Job, IsItem, WordsBelow, IsLeastOf}
use Rattle.least_race.specs.Race.{Race, Event, claim, propose, split, join, party_at, end, after, offers_of, start, times, once_below, least}

-- a spent party is none
abbrev pub Stands : Race → ℕ → Type 0
Stands r p = 0 < (party_at r p).width

-- what an event asks, whatever the jobs are
module _ (names : ℕ) where
  abbrev pub Fits : Race → Event → Type 0
  Fits r (claim p) = Stands r p × ((party_at r p).ended ≡ false)
  Fits r (propose p job item o) = Stands r p × (o.word < names)
  Fits r (split p w) = (1 ≤ w) × (w < (party_at r p).width)
  Fits r (join p q) = Stands r p × Stands r q × (q ≢ p)

  abbrev pub AllFit : Race → List Event → Type 0
  AllFit r [] = Unit {0}
  AllFit r (e ∷ es) = Fits r e × AllFit (after r e) es

module _ (jobs : List Job) where
  -- A party claims while it hasn't ended; it proposes the items of jobs that it claimed; a width of at least 1 is split off, and one of at least 1 stays;
  -- a party takes in another one.
  abbrev pub Allowed : Race → Event → Type 0
  Allowed r (claim p) = Stands r p × ((party_at r p).ended ≡ false)
  Allowed r (propose p job item o) = Stands r p × (0 < times job (party_at r p).claims) × IsItem jobs job item o
  Allowed r (split p w) = (1 ≤ w) × (w < (party_at r p).width)
  Allowed r (join p q) = Stands r p × Stands r q × (q ≢ p)

  abbrev pub IsSchedule : Race → List Event → Type 0
  IsSchedule r [] = Unit {0}
  IsSchedule r (e ∷ es) = Allowed r e × IsSchedule (after r e) es

  -- all jobs were drawn, and every offer of every job was proposed
  abbrev pub IsComplete : Race → List Event → Type 0
  IsComplete r es = (length jobs ≤ (end r es).next) × ((job item : ℕ) (o : Offer) → IsItem jobs job item o → Contains (offers_of es) o)

  module _ (base : List ℕ) (width : ℕ) where
    abbrev pub begun : Race
    begun = start width (length jobs) base

    -- a schedule from the start of a race
    pub record IsRun (es : List Event) : Type 0 where
      pub some_width : 1 ≤ width
      pub small : width ≤ 64
      pub few : length jobs < 2 ^ 31
      pub words : WordsBelow (length base) jobs
      pub schedule : IsSchedule begun es

    -- Each word is the least of its base and the ranks proposed there, whatever the order. The claims are distinct, and are exactly the numbers below
    -- the lesser of the next number and the count of jobs.
    pub record Outcome (es : List Event) : Type 0 where
      pub least_is : (i : ℕ) → i < length base → slice_index (end begun es).words i ≡ least i (slice_index base i) (offers_of es)
      pub claims : (x : ℕ) → total (λ v. times x v.claims) (end begun es).parties ≡ once_below x (min (end begun es).next (length jobs))
      pub kept : KeptRace width (length jobs) base (end begun es)

abbrev pub EverySchedule : Type 0
EverySchedule = (jobs : List Job) (base : List ℕ) (width : ℕ) (es : List Event) → IsRun jobs base width es → Outcome jobs base width es

-- each word is the least of its base and all offers
abbrev pub EveryCompleteSchedule : Type 0
EveryCompleteSchedule = (jobs : List Job) (base : List ℕ) (width : ℕ) (es : List Event) → IsRun jobs base width es → IsComplete jobs (begun jobs base width) es
    → (i : ℕ) → i < length base → IsLeastOf jobs i (slice_index base i) (slice_index (end (begun jobs base width) es).words i)
