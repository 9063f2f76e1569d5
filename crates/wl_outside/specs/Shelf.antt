-- What contracts see of a shelf, and what a load and a save may do to it.
use Rattle.std.specs.Prelude.{◌≡◌, ◌≢◌, ◌⊎◌, ℕ, ◌≤◌, Bool, IsTrue, List, take, Option, Some}
pub use Rattle.wl_outside.specs.Counts.{Rose}

-- the three meanings of a shelf
pub record Shown : Type 0 where
  -- whether it tells what it holds
  pub tells : Bool
  -- the bytes under a name, where the name holds any
  pub held : List ℕ → Option (List ℕ)
  -- how many loads of a name have failed, and how many saves
  pub failed_loads : List ℕ → ℕ
  pub failed_saves : List ℕ → ℕ

-- the name's count of failed loads rose
abbrev pub LoadFailed : Shown → Shown → List ℕ → Type 0
LoadFailed old new name = Rose (old.failed_loads name) (new.failed_loads name)

-- the name's count of failed saves rose
abbrev pub SaveFailed : Shown → Shown → List ℕ → Type 0
SaveFailed old new name = Rose (old.failed_saves name) (new.failed_saves name)

-- no count falls
pub record Grows (old new : Shown) : Type 0 where
  pub tells : new.tells ≡ old.tells
  pub loads : (name : List ℕ) → old.failed_loads name ≤ new.failed_loads name
  pub saves : (name : List ℕ) → old.failed_saves name ≤ new.failed_saves name

-- the name holds these bytes
abbrev pub Holds : Shown → List ℕ → List ℕ → Type 0
Holds s name bytes = IsTrue s.tells → s.held name ≡ Some bytes

-- every name holds what it held
abbrev pub Same : Shown → Shown → Type 0
Same old new = IsTrue old.tells → (n : List ℕ) → new.held n ≡ old.held n

-- every other name holds what it held
abbrev pub SameBut : List ℕ → Shown → Shown → Type 0
SameBut name old new = IsTrue old.tells → (n : List ℕ) → n ≢ name → new.held n ≡ old.held n

-- after a save that failed: the old content, or a prefix of the new
abbrev pub Torn : Shown → Shown → List ℕ → List ℕ → Type 0
Torn old new name bytes = IsTrue old.tells → (new.held name ≡ old.held name) ⊎ ((n : ℕ) × (new.held name ≡ Some (take n bytes)))
