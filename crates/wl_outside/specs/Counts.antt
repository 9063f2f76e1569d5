-- Counts of what failed. They are kept in 64 bits and never fall.
use Rattle.std.specs.Prelude.{ℕ, ◌+◌, ◌-◌, ◌^◌, ◌≤◌, min, refl, ◌≡◌}

-- one more; the last value stands still
abbrev pub raised : ℕ → ℕ
raised count = min (count + 1) (2 ^ 64 - 1)

-- a count rose, or stands at its last value
abbrev pub Rose : ℕ → ℕ → Type 0
Rose before now = raised before ≤ now

pub a_count_rises : raised 6 ≡ 7
a_count_rises = refl

pub a_full_count_stands : raised (2 ^ 64 - 1) ≡ 2 ^ 64 - 1
a_full_count_stands = refl
