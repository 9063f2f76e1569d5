-- Writing from left to right. A negative number is written as the bits of -1 - n, each turned over.
use Rattle.std.specs.Prelude.{ℕ, ◌-◌, ◌%◌, Bool, true, false, ℤ, pos, negsuc, if◌then◌else◌}

-- the number whose bits, turned over where it is negative, are those of n
abbrev pub turned : Bool → ℕ → ℤ
turned true n = negsuc n
turned false n = pos n

-- seven bits, turned over where the number is negative
abbrev pub group : Bool → ℕ → ℕ
group negative bits = if negative then 127 - bits % 128 else bits % 128
