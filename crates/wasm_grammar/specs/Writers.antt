-- A writer beside its grammar.
use Rattle.std.specs.Prelude.{◌≡◌, ℕ, ◌≤◌, List, ◌++◌, length, take}

-- The new bytes are the old ones and a spelling behind them, and no spelling is shorter. (The
-- standard allows several spellings of a number, Core 5.2.2, and so of all that has one.)
pub record Appends (Spelled : List ℕ → Type 0) (old new : List ℕ) : Type 0 where
  pub text : List ℕ
  pub spells : Spelled text
  pub parts : new ≡ old ++ text
  pub least : (other : List ℕ) → Spelled other → length text ≤ length other

-- The same, where there is a spelling at all: a name that isn't UTF-8 has none.
abbrev pub Writes : (List ℕ → Type 0) → List ℕ → List ℕ → Type 0
Writes Spelled old new = (some : List ℕ) → Spelled some → Appends Spelled old new

-- There are bytes that spell it.
abbrev pub HasSpelling : (List ℕ → Type 0) → Type 0
HasSpelling Spelled = (text : List ℕ) × Spelled text

-- The old bytes still stand in front. A writer that fails in its middle leaves them and a part of
-- the spelling, and its caller can cut the part off again.
abbrev pub Keeps : List ℕ → List ℕ → Type 0
Keeps old new = take (length old) new ≡ old
