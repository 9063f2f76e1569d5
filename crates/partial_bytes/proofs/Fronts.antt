-- The first ones of bytes that are put at a place.
use Rattle.std.proofs.Common.{◌≡◌, ℕ, zero, suc, ◌+◌, ◌≤◌, List, [], ◌∷◌, ◌++◌, length, take, refl, sym, ap, ◌∙◌, arith}
use Rattle.std.proofs.lemmas.List.{length-take-le}
use Rattle.image_emit.specs.Put.{IsPut}

behind : (xs ys : List ℕ) (n : ℕ) → take (length xs + n) (xs ++ ys) ≡ xs ++ take n ys
behind [] ys n = let e : 0 + n ≡ n = omega arith in ap (λ (k : ℕ). take k ys) e
behind (x ∷ xs) ys n =
    let e : length (x ∷ xs) + n ≡ suc (length xs + n) = omega arith in
    ap (λ (k : ℕ). take k (x ∷ (xs ++ ys))) e ∙ ap (λ (zs : List ℕ). let all : List ℕ = x ∷ zs in all) (behind xs ys n)

take_less : (xs : List ℕ) (m n : ℕ) → m ≤ n → take m (take n xs) ≡ take m xs
take_less xs zero n le = refl
take_less xs (suc m) zero le = absurd (omega (arith, le))
take_less [] (suc m) (suc n) le = refl
take_less (x ∷ xs) (suc m) (suc n) le = ap (λ (zs : List ℕ). let all : List ℕ = x ∷ zs in all) (take_less xs m n (omega (arith, le)))

-- where all are put, so are the first ones
pub first_put : (old new given bytes : List ℕ) (at len end : ℕ) → given ≡ bytes → at ≤ length old → len ≤ length bytes → IsPut old at given end new → IsPut old at (take len bytes) (at + len) new
first_put old new given bytes at len end same low few put =
    let long : length (take at old) ≡ at = length-take-le at old low in
    let some : length (take len bytes) ≡ len = length-take-le len bytes few in
    let within : at + len ≤ end = omega (arith, put.place, few, ap (λ (zs : List ℕ). length zs) same) in
    let all : take end new ≡ take at old ++ bytes = put.front ∙ ap (λ (zs : List ℕ). take at old ++ zs) same in
    let split : take (at + len) (take at old ++ bytes) ≡ take at old ++ take len bytes =
    ap (λ (k : ℕ). take (k + len) (take at old ++ bytes)) (sym long) ∙ behind (take at old) bytes len in
    record {
      front = sym (take_less new (at + len) end within) ∙ (ap (λ (zs : List ℕ). take (at + len) zs) all ∙ split);
      place = omega (arith, some);
      len = put.len;
    }
