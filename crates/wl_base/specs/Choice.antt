-- Choosing the first that applies, and lists without repeats.
use Rattle.std.specs.List.{list_any}
use Rattle.std.specs.Prelude.{ℕ, List, [], ◌∷◌, ◌++◌, Bool, true, false, if◌then◌else◌, Option, Some, None, Result, Ok, Err, bytes_eq}

-- the first that is there
abbrev pub first_some : {A : Type 0} → List (Option A) → Option A
first_some [] = None
first_some (Some a ∷ rest) = Some a
first_some (None ∷ rest) = first_some rest

-- the value, where the test holds
abbrev pub given : {A : Type 0} → Bool → A → Option A
given true a = Some a
given false a = None

-- the list without what an earlier element equals, behind elements that were seen
abbrev pub distinct_onto : {A : Type 0} → (A → A → Bool) → List A → List A → List A
distinct_onto same seen [] = seen
distinct_onto same seen (x ∷ xs) = distinct_onto same (if list_any (same x) seen then seen else seen ++ x ∷ []) xs

-- the list without what an earlier element equals
abbrev pub distinct : {A : Type 0} → (A → A → Bool) → List A → List A
distinct same xs = distinct_onto same [] xs

-- whether the name is among the names
abbrev pub has_name : List (List ℕ) → List ℕ → Bool
has_name names name = list_any (bytes_eq name) names

-- the answer, unless there is a fault
abbrev pub unless : {A F : Type 0} → Option F → A → Result A F
unless None answer = Ok answer
unless (Some fault) answer = Err fault

-- one thing after another, up to the first fault
infixl 10 ◌>>=◌
abbrev pub ◌>>=◌ : {A B F : Type 0} → Result A F → (A → Result B F) → Result B F
(Ok a) >>= next = next a
(Err fault) >>= next = Err fault
