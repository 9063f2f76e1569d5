-- A number that has passed its greatest value stays above it.
use Rattle.std.proofs.Common.{◌≡◌, ℕ, ◌+◌, ◌*◌, ◌<◌, ◌≤◌, Bool, true, false, cond, List, [], ◌∷◌, length, get_or, drop, nat_lt, nat_le, eqb, Some, None, refl, sym, ap, ◌∙◌, arith}
use Rattle.std.proofs.lemmas.Grind.{common_steps}
use Rattle.std.proofs.lemmas.Bool.Decides.{nat_tests}
use Rattle.link_words.specs.Numbers.{digit_of, digits_of, up_to, some_digits}

larger : (value base d : ℕ) → 0 < base → value ≤ value * base + d
larger value base d some = grind arith

too_large : (bs : List ℕ) (base value most : ℕ) → 0 < base → most < value → up_to most (digits_of base value bs) ≡ None
too_large [] base value most some above = let no : nat_le value most ≡ false = grind (arith, nat_tests) in ap (λ b. cond b (Some value) None) no
too_large (b ∷ bs) base value most some above =
    by (nat_lt (digit_of b) base) (too_large bs base (value * base + digit_of b) most some (let h = larger value base (digit_of b) some in omega arith))
  where
    by : (t : Bool) → up_to most (digits_of base (value * base + digit_of b) bs) ≡ None → up_to most (cond t (digits_of base (value * base + digit_of b) bs) None) ≡ None
    by true e = e
    by false e = refl

next : (xs : List ℕ) (i base value : ℕ) → i < length xs → digit_of (get_or xs i 0) < base
    → digits_of base value (drop i xs) ≡ digits_of base (value * base + digit_of (get_or xs i 0)) (drop (i + 1) xs)
next xs i base value within digit = grind (arith, common_steps, nat_tests)

pub passed : (xs : List ℕ) (i base value most : ℕ) → 0 < base → i < length xs → digit_of (get_or xs i 0) < base → most < value * base + digit_of (get_or xs i 0)
    → digits_of base 0 xs ≡ digits_of base value (drop i xs) → None ≡ up_to most (some_digits base xs)
passed xs i base value most some within digit above so_far =
    let filled : eqb (length xs) 0 ≡ false = grind (arith, nat_tests) in
    sym (ap (λ t. up_to most (cond t None (digits_of base 0 xs))) filled
    ∙ ap (up_to most) (so_far ∙ next xs i base value within digit)
    ∙ too_large (drop (i + 1) xs) base (value * base + digit_of (get_or xs i 0)) most some above)
