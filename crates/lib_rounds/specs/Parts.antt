-- How members are divided among workers.
use Rattle.std.proofs.Common.{ℕ, ◌*◌, ◌≤◌, min, arith}
use Rattle.std.proofs.Math.Nat.{mul-le-mul_right}

-- Parts of one size, but for the last ones: where one begins.
abbrev pub first_of : ℕ → ℕ → ℕ → ℕ
first_of count size part = min (part * size) count

pub first_rises : (count size p q : ℕ) → p ≤ q → first_of count size p ≤ first_of count size q
first_rises count size p q le = omega (arith, mul-le-mul_right {m = p} {n = q} size le)
