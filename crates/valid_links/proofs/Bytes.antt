-- The bytes of a part are those of its object.
use Rattle.std.proofs.Common.{◌≡◌, ℕ, zero, suc, ◌+◌, ◌≤◌, List, [], ◌∷◌, length, refl, ap, ◌∙◌, arith}
use Rattle.std.specs.Prelude.{take, drop}

drop_none : {A : Type 0} (n m : ℕ) (xs : List A) → xs ≡ [] → drop n xs ≡ drop m xs
drop_none zero zero xs e = refl
drop_none zero (suc m) [] e = refl
drop_none (suc n) zero [] e = refl
drop_none (suc n) (suc m) [] e = refl
drop_none n m (x ∷ xs) e = absurd (grind arith)

pub take_long : {A : Type 0} (n : ℕ) (xs : List A) → length (take n xs) ≤ n
take_long zero xs = omega arith
take_long (suc n) [] = omega arith
take_long (suc n) (x ∷ xs) = let l : length (take n xs) ≤ n = take_long n xs in omega (arith, l)

take_take : {A : Type 0} (n m : ℕ) (xs : List A) → n ≤ m → take n (take m xs) ≡ take n xs
take_take zero m xs h = refl
take_take (suc n) zero xs h = absurd (omega (arith, h))
take_take (suc n) (suc m) [] h = refl
take_take (suc n) (suc m) (x ∷ xs) h = ap (λ ys. x ∷ ys) (take_take n m xs (omega (arith, h)))

drop_take : {A : Type 0} (s n m : ℕ) (xs : List A) → s + n ≤ m → take n (drop s (take m xs)) ≡ take n (drop s xs)
drop_take zero n m xs h = take_take n m xs (omega (arith, h))
drop_take (suc s) n zero xs h = absurd (omega (arith, h))
drop_take (suc s) n (suc m) [] h = refl
drop_take (suc s) n (suc m) (x ∷ xs) h = drop_take s n m xs (omega (arith, h))

drop_drop : {A : Type 0} (s t : ℕ) (xs : List A) → drop s (drop t xs) ≡ drop (t + s) xs
drop_drop s zero xs = let z : s ≡ zero + s = omega arith in ap (λ n. drop n xs) z
drop_drop s (suc t) [] = drop_none s (suc t + s) [] refl
drop_drop s (suc t) (x ∷ xs) = let z : suc (t + s) ≡ suc t + s = omega arith in drop_drop s t xs ∙ ap (λ n. drop n (x ∷ xs)) z

-- a part of a part
pub part_in : {A : Type 0} (s n m t : ℕ) (xs : List A) → s + n ≤ length (take m (drop t xs)) → take n (drop s (take m (drop t xs))) ≡ take n (drop (t + s) xs)
part_in s n m t xs h = drop_take s n m (drop t xs) (let l = take_long m (drop t xs) in omega (arith, h, l)) ∙ ap (take n) (drop_drop s t xs)
