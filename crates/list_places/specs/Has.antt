-- Elements of a list, what stands at a place, and lists in which no two elements are the same.
use Rattle.std.specs.Prelude.{◌≡◌, ◌⊎◌, ℕ, List, [], ◌∷◌, Some, slice_get, Bool, true}

-- the element is one of the list
abbrev pub Has : {X : Type 0} → List X → X → Type 0
Has [] x = ⊥
Has (y ∷ ys) x = (y ≡ x) ⊎ Has ys x

-- An item that stands at a place and passes a test.
pub record Stands {X : Type 0} (p : X → Bool) (xs : List X) (at : ℕ) : Type 0 where
  pub item : X
  pub there : slice_get xs at ≡ Some item
  pub passes : p item ≡ true

-- A test of sameness that is an equivalence.
pub record Same {X : Type 0} (same : X → X → Bool) : Type 0 where
  pub itself : (x : X) → same x x ≡ true
  pub carries : (x y : X) → same x y ≡ true → (z : X) → same x z ≡ same y z

-- no two elements at different places are the same
abbrev pub Apart : {X : Type 0} → (X → X → Bool) → List X → Type 0
Apart same [] = Unit {0}
Apart same (x ∷ xs) = ((y : _) → Has xs y → same x y ≡ true → ⊥) × Apart same xs
