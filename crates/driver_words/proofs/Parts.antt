-- Whether bytes have a part, a place at a time.
use Rattle.std.proofs.Common.{◌≡◌, ◌<◌, ◌+◌, ◌||◌, ℕ, zero, suc, false, List, [], ◌∷◌, length, drop, eqb, sym, ap, ◌∙◌, arith}
use Rattle.std.specs.List.{starts_with}
use Rattle.driver_words.specs.Start.{has_part}

-- the part doesn't begin here, so it is behind
pub goes_by : (part bytes : List ℕ) (at : ℕ) → at < length bytes → starts_with eqb (drop at bytes) part ≡ false → has_part part (drop (at + 1) bytes) ≡ has_part part (drop at bytes)
goes_by part [] at below other = absurd (omega (arith, below))
goes_by part (b ∷ bs) zero below other = sym (ap (λ c. c || has_part part bs) other)
goes_by part (b ∷ bs) (suc at) below other =
    let k : suc at + 1 ≡ suc (at + 1) = omega arith in
    let within : at < length bs = omega (arith, below) in
    ap (λ (n : ℕ). has_part part (drop n (b ∷ bs))) k ∙ goes_by part bs at within other
