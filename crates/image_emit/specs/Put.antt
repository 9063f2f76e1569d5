-- Writing from left to right.
use Rattle.std.specs.Prelude.{◌≡◌, ℕ, ◌+◌, ◌≤◌, ◌<◌, ◌^◌, ◌-◌, min, List, ◌++◌, length, take}

-- the bytes go behind what stands before `at`
pub record IsPut (old : List ℕ) (at : ℕ) (bytes : List ℕ) (end : ℕ) (new : List ℕ) : Type 0 where
  pub front : take end new ≡ take at old ++ bytes
  pub place : end ≡ at + length bytes
  pub len : length new ≡ length old

-- there is room for the bytes; no module has 2^31 bytes
abbrev pub HasRoom : List ℕ → ℕ → List ℕ → Type 0
HasRoom old at bytes = (at + length bytes ≤ length old) × (length old < 2 ^ 31)

-- a number as far as 64 bits hold it
abbrev pub capped : ℕ → ℕ
capped n = min n (2 ^ 64 - 1)
