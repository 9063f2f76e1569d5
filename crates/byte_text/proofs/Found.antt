-- The kit's words for what is found, beside those of the standard library.
use Rattle.std.proofs.Common.{◌≡◌, ℕ, ◌<◌, Bool, true, false, List, length, Option, Some, None, refl, sym, arith}
use Rattle.std.specs.Prelude.{IsUtf8, IsTrue, IfSome, position, ◌↔◌, ◌==◌}
use Rattle.std.specs.Str.{is_utf8}
use Rattle.std.specs.List.{position_or_len}
use Rattle.std.proofs.lemmas.Bool.{lt-ltb, le-ltb}
use Rattle.std.proofs.lemmas.List.Sums.{position_or_len_is}
use Rattle.std.proofs.lemmas.Str.{is_utf8-from_IsUtf8, IsUtf8-from_is_utf8}
use Rattle.bstr.specs.Find.{IsFirstByte, is_byte}

pub utf8_is : (text : List ℕ) (b : Bool) → IsTrue b ↔ IsUtf8 text → b ≡ is_utf8 text
utf8_is text true tells = sym (is_utf8-from_IsUtf8 text (tells.0 refl))
utf8_is text false tells = by (is_utf8 text) refl
  where
    by : (q : Bool) → is_utf8 text ≡ q → false ≡ q
    by true e = tells.1 (IsUtf8-from_is_utf8 text e)
    by false e = refl

not_there : (b : Bool) → (b ≡ true → ⊥) → b ≡ false
not_there true never = absurd (never refl)
not_there false never = refl

-- the first byte that is this one stands at its position
pub first_is : (a : ℕ) (xs : List ℕ) (r : Option ℕ) → IsFirstByte (is_byte a) xs r → r ≡ position (λ x. x == a) xs
first_is a xs None nowhere =
    let n : position_or_len (λ x. x == a) xs ≡ length xs
    = position_or_len_is (λ x. x == a) xs (length xs) 0 (omega arith) (λ k below. not_there _ (nowhere k (omega arith) below)) (λ within. absurd (omega (arith, within))) in
    rw (n, le-ltb (length xs) (length xs) (omega arith)) refl
first_is a xs (Some k) found =
    let n : position_or_len (λ x. x == a) xs ≡ k
    = position_or_len_is (λ x. x == a) xs k 0 (omega (arith, found.0.high)) (λ j below. not_there _ (found.0.before j (omega arith) below)) (λ within. found.1) in
    rw (n, lt-ltb k (length xs) found.0.high) refl

pub first_within : (a : ℕ) (xs : List ℕ) (r : Option ℕ) → IsFirstByte (is_byte a) xs r → IfSome r (λ k. k < length xs)
first_within a xs None nowhere = tt
first_within a xs (Some k) found = found.0.high
