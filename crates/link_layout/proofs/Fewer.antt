-- Parts of lists, where there are fewer items than are asked for.
use Rattle.std.proofs.Common.{◌≡◌, ℕ, zero, suc, min, List, [], ◌∷◌, length, take, drop, refl, sym, ap, ◌∙◌, arith}

none_dropped : {A : Type 0} (n : ℕ) → drop {A = A} n [] ≡ []
none_dropped zero = refl
none_dropped (suc n) = refl

none_taken : {A : Type 0} (n : ℕ) → take {A = A} n [] ≡ []
none_taken zero = refl
none_taken (suc n) = refl

pub dropped_less : {A : Type 0} (xs : List A) (n : ℕ) → drop (min n (length xs)) xs ≡ drop n xs
dropped_less [] n = none_dropped (min n 0) ∙ sym (none_dropped n)
dropped_less (x ∷ xs) zero = let e : min 0 (suc (length xs)) ≡ 0 = omega arith in ap (λ k. drop k (x ∷ xs)) e
dropped_less (x ∷ xs) (suc n) = let e : min (suc n) (suc (length xs)) ≡ suc (min n (length xs)) = omega arith in ap (λ k. drop k (x ∷ xs)) e ∙ dropped_less xs n

pub taken_less : {A : Type 0} (xs : List A) (n : ℕ) → take (min n (length xs)) xs ≡ take n xs
taken_less [] n = none_taken (min n 0) ∙ sym (none_taken n)
taken_less (x ∷ xs) zero = let e : min 0 (suc (length xs)) ≡ 0 = omega arith in ap (λ k. take k (x ∷ xs)) e
taken_less (x ∷ xs) (suc n) = let e : min (suc n) (suc (length xs)) ≡ suc (min n (length xs)) = omega arith in ap (λ k. take k (x ∷ xs)) e ∙ ap (λ r. x ∷ r) (taken_less xs n)
