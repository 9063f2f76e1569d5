-- The greatest number of a list, one after another.
use Rattle.std.proofs.Common.{◌≡◌, ℕ, arith, ◌∙◌}
use Rattle.std.specs.Prelude.{max}

pub begun : (n : ℕ) → max 0 n ≡ n
begun n = omega arith

pub more : (g a rest total : ℕ) → max g (max a rest) ≡ total → max (max g a) rest ≡ total
more g a rest total is = let same : max (max g a) rest ≡ max g (max a rest) = omega arith in same ∙ is

pub ended : (g total : ℕ) → max g 0 ≡ total → g ≡ total
ended g total is = let same : g ≡ max g 0 = omega arith in same ∙ is
