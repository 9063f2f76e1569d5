-- Numbers of keys: their places. In an index space the imports come first, then what is defined, each counted from 0
-- (Core 2.5.1).
use Rattle.std.specs.Prelude.{ℕ, ◌<◌, ◌≢◌, ◌==◌, Bool, List, Option, position, unwrap_or, length, slice_index}

-- The number of a key in the list of all keys.
abbrev pub number_in : List ℕ → ℕ → Option ℕ
number_in keys key = position (λ k. key == k) keys

-- The same for keys of any type. One that isn't there has the number 0.
abbrev pub number_by : {A : Type 0} → (A → A → Bool) → List A → A → ℕ
number_by same keys key = unwrap_or (position (same key) keys) 0

-- No key stands twice.
abbrev pub AllDiffer : List ℕ → Type 0
AllDiffer keys = (i j : ℕ) → i < j → j < length keys → slice_index keys i ≢ slice_index keys j
