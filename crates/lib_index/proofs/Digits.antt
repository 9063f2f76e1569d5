-- Decimal digits in a field.
use Rattle.std.proofs.Common.{◌≡◌, ℕ, ◌+◌, ◌-◌, ◌*◌, ◌^◌, ◌≤◌, ◌<◌, Bool, true, false, leb, ◌&&◌, List, length, take, refl, sym, ap, subst, ◌∙◌, arith, length-take}
use Rattle.std.specs.Prelude.{All}
use Rattle.std.specs.List.{prefix_len}
use Rattle.std.specs.Char.{is_ascii_digit}
use Rattle.std.proofs.lemmas.Bool.{leb-true}
use Rattle.std.proofs.lemmas.List.Sums.{fold_more, prefix_len_passes, prefix_len-le-length}
use Rattle.std.proofs.lemmas.Grind.{pow_more}
use Rattle.std.proofs.Math.Nat.{pow-le-pow_right}
use Rattle.std.proofs.lemmas.List.{get_or-take}
use Rattle.std.proofs.Math.ListN.{get_or}
use Rattle.lib_index.specs.Archive.{IsDigit, decimal}

pub both : (a b : Bool) → (a && b) ≡ true → (a ≡ true) × (b ≡ true)
both true b e = (refl, e)
both false b e = absurd cc

pub digit_bounds : (b : ℕ) → is_ascii_digit b ≡ true → (48 ≤ b) × (b ≤ 57)
digit_bounds b e =
    let p = both (leb 48 b) (leb b 57) e in
    (leb-true 48 b p.0, leb-true b 57 p.1)

-- the digits at the front are digits
pub digits_pass : (field : List ℕ) → All IsDigit (take (prefix_len is_ascii_digit field) field)
digits_pass field k d lt =
    let n : ℕ = prefix_len is_ascii_digit field in
    let le : n ≤ length field = prefix_len-le-length is_ascii_digit field in
    let k_below : k < n = omega (arith, lt, length-take n field) in
    subst (λ b. is_ascii_digit b ≡ true) (sym (get_or-take n field k d k_below)) (prefix_len_passes is_ascii_digit field k d k_below)

-- one digit more
pub next_value : (digits : List ℕ) (i number : ℕ) → i < length digits → number ≡ decimal (take i digits) → 10 * number + (get_or digits i 0 - 48) ≡ decimal (take (i + 1) digits)
next_value digits i number lt so_far =
    ap (λ n. 10 * n + (get_or digits i 0 - 48)) so_far ∙ sym (fold_more (λ n digit. 10 * n + (digit - 48)) 0 digits i 0 lt)

pub next_small : (number digit i : ℕ) → number < 10 ^ i → digit ≤ 57 → 10 * number + (digit - 48) < 10 ^ (i + 1)
next_small number digit i small low = omega (arith, pow_more 10 i, small, low)

-- up to ten digits fit
pub fits : (number i : ℕ) → number < 10 ^ i → i ≤ 9 → number < 10 ^ 9
fits number i small le = let p : 10 ^ i ≤ 10 ^ 9 = pow-le-pow_right {n = 10} (omega arith) le in omega arith
