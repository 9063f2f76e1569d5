-- What contracts see of a place for lines, and what a write may do to it.
use Rattle.std.specs.Prelude.{◌≡◌, ℕ, ◌≤◌, Bool, List, ◌++◌, take, IsTrue, Result, Ok, Err}
use Rattle.wl_outside.specs.declared.sink.Failed.{Failed}
pub use Rattle.wl_outside.specs.Counts.{Rose}

-- the two meanings of a sink
pub record Told : Type 0 where
  -- whether it tells its bytes
  pub tells : Bool
  -- the bytes so far
  pub bytes : List ℕ
  -- how often it failed
  pub faults : ℕ

-- these bytes came behind what was there, and no fault is forgotten
pub record Added (bytes : List ℕ) (old new : Told) : Type 0 where
  pub tells : new.tells ≡ old.tells
  pub faults : old.faults ≤ new.faults
  pub grown : IsTrue old.tells → new.bytes ≡ old.bytes ++ bytes

-- all of the text came, or the count rose and a prefix of it came
abbrev pub Wrote : Result (Unit {0}) Failed → List ℕ → Told → Told → Type 0
Wrote (Ok done) text old new = Added text old new
Wrote (Err failed) text old new = Rose old.faults new.faults × ((n : ℕ) × Added (take n text) old new)
