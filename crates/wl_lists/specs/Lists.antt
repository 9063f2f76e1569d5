-- A list of lists, and the one list that has their items one behind the other.
use Rattle.std.specs.Prelude.{◌≡◌, ℕ, ◌-◌, ◌≤◌, List, [], ◌∷◌, take, drop}

-- The parts of a list from a start on, each up to its end.
abbrev pub cut : {A : Type 0} → ℕ → List ℕ → List A → List (List A)
cut start [] items = []
cut start (e ∷ es) items = take (e - start) (drop start items) ∷ cut e es items

-- The ends rise from a start on, and the last is the whole length.
abbrev pub Rise : ℕ → List ℕ → ℕ → Type 0
Rise start [] total = start ≡ total
Rise start (e ∷ es) total = (start ≤ e) × Rise e es total
