-- What holds of the rounds of loading: they end, and the loaded inputs are the first round that equals its successor.
use Rattle.std.specs.Prelude.{◌≡◌, ◌≢◌, ◌≤◌, ◌<◌, ◌↔◌, ◌⊎◌, ℕ, zero, suc, true, List, [], ◌∷◌, ◌++◌, map, length, Option, Some, None, Ok, All, AllPairs, Contains}
use Rattle.object_file.specs.wl_base.Choice.{first_some, unless, has_name}
use Rattle.object_file.specs.wl_base.declared.fault.Fault.{Fault}
use Rattle.made_symbols.specs.declared.mode.Mode.{Mode}
use Rattle.round_rules.specs.Rounds.{Candidate, objects_of, wanted_names, offering, added_fault, inputs_of, next_adds, rounds, at_once, always_read_fault, loaded_inputs}

-- the inputs of candidates
abbrev pub inputs_in : List Candidate → List ℕ
inputs_in all = map (λ c. c.input) all

-- no number stands twice
abbrev pub Differ : List ℕ → Type 0
Differ xs = AllPairs (λ a b. a ≢ b) xs

-- each number is below all later ones
abbrev pub Rise : List ℕ → Type 0
Rise xs = AllPairs (λ a b. a < b) xs

module _ (mode : Mode) (asked : List (List ℕ)) (all : List Candidate) where
  -- The successor of a round: its inputs, and behind them those that are added to it.
  abbrev pub next_round : List ℕ → List ℕ
  next_round loaded = loaded ++ inputs_of (next_adds mode asked all loaded)

  -- So many rounds after these inputs, whatever faults what is added has.
  abbrev pub round_after : ℕ → List ℕ → List ℕ
  round_after zero loaded = loaded
  round_after (suc k) loaded = round_after k (next_round loaded)

  -- The fault of the least input that is added to a round and has one.
  abbrev pub round_fault : List ℕ → Option Fault
  round_fault loaded = first_some (map added_fault (next_adds mode asked all loaded))

  -- The first fault of so many rounds after these inputs.
  abbrev pub fault_within : ℕ → List ℕ → Option Fault
  fault_within zero loaded = None
  fault_within (suc k) loaded = first_some (round_fault loaded ∷ fault_within k (next_round loaded) ∷ [])

  -- Something is added to a round: its successor has an input that it hasn't.
  abbrev pub Grows : List ℕ → Type 0
  Grows loaded = (input : ℕ) × Contains (next_round loaded) input × (Contains loaded input → ⊥)

  -- Of the rounds after these inputs, round k is the first that equals its successor: each earlier one grows.
  abbrev pub IsFirstEqual : ℕ → List ℕ → Type 0
  IsFirstEqual k loaded = (next_round (round_after k loaded) ≡ round_after k loaded) × ((j : ℕ) → j < k → Grows (round_after j loaded))

-- From any loaded inputs on, a round equals its successor after as many rounds as there are candidates at most. Any count of rounds that
-- isn't less gives the first such round, or the first fault before it: the count of rounds is no limit.
abbrev pub RoundsEnd : Type 0
RoundsEnd = (mode : Mode) (asked : List (List ℕ)) (all : List Candidate) (loaded : List ℕ)
    → (k : ℕ) × (k ≤ length all) × IsFirstEqual mode asked all k loaded
    × ((n : ℕ) → k ≤ n → rounds mode asked all n loaded ≡ unless (fault_within mode asked all k loaded) (round_after mode asked all k loaded))

-- So the loaded inputs are the first round that equals its successor. They are refused exactly where an object that is read at once
-- has a fault, and else where one that is added before that round has one: by the fault of the first round that has any.
abbrev pub LoadedIsFirstEqual : Type 0
LoadedIsFirstEqual = (mode : Mode) (asked : List (List ℕ)) (all : List Candidate)
    → (k : ℕ) × (k ≤ length all) × IsFirstEqual mode asked all k (at_once all)
    × (loaded_inputs mode asked all ≡ unless (first_some (always_read_fault all ∷ fault_within mode asked all k (at_once all) ∷ [])) (round_after mode asked all k (at_once all)))

-- Nothing is added to the loaded inputs.
abbrev pub NothingIsLeft : Type 0
NothingIsLeft = (mode : Mode) (asked : List (List ℕ)) (all : List Candidate) (loaded : List ℕ)
    → loaded_inputs mode asked all ≡ Ok loaded → next_adds mode asked all loaded ≡ []

-- Exactly these inputs are in the successor of a round: its own, and for each name that it wants the input that offers the name.
abbrev pub NextIs : Type 0
NextIs = (mode : Mode) (asked : List (List ℕ)) (all : List Candidate) (loaded : List ℕ) (input : ℕ)
    → Contains (next_round mode asked all loaded) input
    ↔ (Contains loaded input ⊎ ((name : List ℕ) × Contains (wanted_names mode asked (objects_of all loaded)) name × (offering all name ≡ Some input)))

-- Where the candidates stand by rising input, the input that offers a name is the least whose candidate does.
abbrev pub LeastOffers : Type 0
LeastOffers = (all : List Candidate) (name : List ℕ) (input : ℕ)
    → Rise (inputs_in all) → offering all name ≡ Some input
    → ((c : Candidate) × Contains all c × (c.input ≡ input) × (has_name c.offers name ≡ true))
    × ((c : Candidate) → Contains all c → has_name c.offers name ≡ true → input ≤ c.input)

-- There too what is added stands by rising input, so that the first fault in it is that of the least input that has one.
abbrev pub AddedRise : Type 0
AddedRise = (mode : Mode) (asked : List (List ℕ)) (all : List Candidate) (loaded : List ℕ)
    → Rise (inputs_in all) → Rise (inputs_of (next_adds mode asked all loaded))

-- Where the inputs of the candidates differ, and some of them are loaded, each once, this is so after any number of rounds too.
abbrev pub RoundsOnce : Type 0
RoundsOnce = (mode : Mode) (asked : List (List ℕ)) (all : List Candidate) (k : ℕ) (loaded : List ℕ)
    → Differ (inputs_in all) → Differ loaded → All (Contains (inputs_in all)) loaded
    → Differ (round_after mode asked all k loaded) × All (Contains (inputs_in all)) (round_after mode asked all k loaded)

-- So no loaded input stands twice; all are inputs of candidates, and those of round 0 are among them.
abbrev pub LoadedOnce : Type 0
LoadedOnce = (mode : Mode) (asked : List (List ℕ)) (all : List Candidate) (loaded : List ℕ)
    → Differ (inputs_in all) → loaded_inputs mode asked all ≡ Ok loaded
    → Differ loaded × All (Contains (inputs_in all)) loaded × All (Contains loaded) (at_once all)
