-- The value of a spelling.
use Rattle.std.proofs.Common.{◌≡◌, ℕ, zero, suc, ◌+◌, ◌-◌, ◌*◌, ◌%◌, ◌^◌, ◌<◌, ◌≤◌, List, [], ◌∷◌, length, take, get_or, refl, sym, ap, ◌∙◌, arith, length-take, bit_and, bit_or, Bool, true, false, ◌||◌, ltb, leb, eqb, inl, inr, ◌⊎◌, pos, ◌<ℤ◌, ◌≤ℤ◌, ◌+ℤ◌, ◌-ℤ◌, negsuc, neg_ℤ, FitsSigned, w32, w64, to_z}
use Rattle.std.proofs.lemmas.Int.{ints}
use Rattle.std.proofs.Math.Nat.{pow-suc, pow-le-pow_right}
use Rattle.std.proofs.lemmas.Nat.{and_mask, mul-le, one_shl, pow-add}
use Rattle.std.specs.Int.Bits.{or_shifted_r}
use Rattle.std.proofs.lemmas.Bool.{ltb-true, leb-true, lt-ltb, le-ltb, cases_lt, eqb-true}
use Rattle.std.proofs.Math.Facts.{to_z-neg}
use native.Mathlib.Numerals.{unary_clauses}
use Rattle.leb_codec.specs.declared.form.Form.TheVariants.{U32, S32, S64}
use Rattle.leb_codec.specs.Spelling.{EndsOnce, IsSpelling, last_byte, magnitude, signed_value}
use Rattle.leb_codec.specs.Reading.{low_bits}

pub magnitude_below : (bytes : List ℕ) → magnitude bytes < 128 ^ length bytes
magnitude_below [] = omega arith
magnitude_below (b ∷ bytes) = omega (arith, magnitude_below bytes, pow-suc 128 (length bytes))

-- bounds for a list of at most so many bytes
pub magnitude_within : (bytes : List ℕ) (n : ℕ) → length bytes ≤ n → magnitude bytes < 128 ^ n
magnitude_within bytes n h =
    let grown : 128 ^ length bytes ≤ 128 ^ n = pow-le-pow_right {n = 128} (omega arith) h in
    omega (arith, magnitude_below bytes, grown)

-- the bytes up to one more
pub magnitude_more : (i : ℕ) (bytes : List ℕ) → i < length bytes → magnitude (take (suc i) bytes) ≡ magnitude (take i bytes) + get_or bytes i 0 % 128 * 128 ^ i
magnitude_more i [] lt = absurd (omega arith)
magnitude_more zero (b ∷ bytes) lt = omega arith
magnitude_more (suc i) (b ∷ bytes) lt =
    let below : magnitude (take (suc i) bytes) ≡ magnitude (take i bytes) + get_or bytes i 0 % 128 * 128 ^ i = magnitude_more i bytes (omega arith) in
    rw (below, pow-suc) (omega arith)

pub u32_fits : (bytes : List ℕ) → IsSpelling U32 bytes → magnitude bytes < 2 ^ 32
u32_fits [] s = absurd s.ends
u32_fits (a ∷ []) s = omega arith
u32_fits (a ∷ b ∷ []) s = omega arith
u32_fits (a ∷ b ∷ c ∷ []) s = omega arith
u32_fits (a ∷ b ∷ c ∷ d ∷ []) s = omega arith
u32_fits (a ∷ b ∷ c ∷ d ∷ e ∷ []) s = omega (arith, ltb-true e 16 (s.tail refl))
u32_fits (a ∷ b ∷ c ∷ d ∷ e ∷ f ∷ bytes) s = absurd (omega (arith, s.within))

-- the last byte stands above the others
pub magnitude_split : (n : ℕ) (bytes : List ℕ) → length bytes ≡ suc n → magnitude bytes ≡ magnitude (take n bytes) + get_or bytes n 0 % 128 * 128 ^ n
magnitude_split n [] len = absurd (omega arith)
magnitude_split zero (b ∷ []) len = omega arith
magnitude_split zero (b ∷ c ∷ bytes) len = absurd (omega arith)
magnitude_split (suc n) (b ∷ bytes) len =
    let below : magnitude bytes ≡ magnitude (take n bytes) + get_or bytes n 0 % 128 * 128 ^ n = magnitude_split n bytes (omega arith) in
    rw (below, pow-suc) (omega arith)

pow_seven : (n : ℕ) → 2 ^ (7 * n) ≡ 128 ^ n
pow_seven zero = refl
pow_seven (suc n) =
    let k : 7 * suc n ≡ 7 * n + 7 = omega arith in
    rw (k, pow-add 2 (7 * n) 7, pow_seven n, pow-suc 128 n) refl

-- seven bits above those that are there: of the tenth seven, one has room
or_more : (m c i : ℕ) → i ≤ 9 → m < 128 ^ i → c < 128 → bit_or (m % 2 ^ 64) (c * 2 ^ (7 * i) % 2 ^ 64) ≡ (m + c * 128 ^ i) % 2 ^ 64
or_more m c i few below small =
    let weight : 2 ^ (7 * i) ≡ 128 ^ i = pow_seven i in
    elim (cases_lt i 9) [
      | inl less ↦
          let eight : i ≤ 8 = omega arith in
          let grown : 128 ^ i ≤ 128 ^ 8 = pow-le-pow_right {n = 128} (omega arith) eight in
          let product : c * 2 ^ (7 * i) ≤ 127 * 128 ^ 8 = omega (arith, mul-le c (2 ^ (7 * i)) 127 (128 ^ 8) (omega arith) (omega arith)) in
          let fits : c * 2 ^ (7 * i) % 2 ^ 64 ≡ c * 2 ^ (7 * i) = omega arith in
          let whole : m % 2 ^ 64 ≡ m = omega arith in
          let sum : c * 2 ^ (7 * i) ≡ c * 128 ^ i = ap (λ k. c * k) weight in
          rw (fits, whole, or_shifted_r c (7 * i) m (omega arith)) (omega arith)
      | inr more ↦
          let nine : i ≡ 9 = omega arith in
          let under : m < 128 ^ 9 = rw nine at below in
          let one : c * 2 ^ (7 * 9) % 2 ^ 64 ≡ c % 2 * 2 ^ 63 = omega arith in
          let whole : m % 2 ^ 64 ≡ m = omega arith in
          rw nine (rw (one, whole, or_shifted_r (c % 2) 63 m (omega arith)) (omega arith))
    ]

-- one byte more, from the front on
pub bits_more : (bytes : List ℕ) (bits x i : ℕ) → i ≤ 9 → i < length bytes → bits ≡ low_bits (take i bytes) → x ≡ bit_and (get_or bytes i 0) 127
    → bit_or bits (x * 2 ^ (7 * i) % 2 ^ 64) ≡ low_bits (take (i + 1) bytes)
bits_more bytes bits x i few within so_far is =
    let k : i + 1 ≡ suc i = omega arith in
    let low : x ≡ get_or bytes i 0 % 128 = is ∙ and_mask (get_or bytes i 0) 7 in
    rw (k, magnitude_more i bytes within, so_far, low) (or_more (magnitude (take i bytes)) (get_or bytes i 0 % 128) i few (magnitude_within (take i bytes) i (omega (arith, length-take i bytes))) (omega arith))

pub last_below : (bytes : List ℕ) → EndsOnce bytes → last_byte bytes < 128
last_below [] ends = absurd ends
last_below (b ∷ []) ends = ends
last_below (b ∷ c ∷ bytes) ends = let below = last_below (c ∷ bytes) ends.1 in simp unary_clauses (simp unary_clauses at below)

-- how large a number is, beside the weight past its last byte
pub record Weighs (bits weight last : ℕ) : Type 0 where
  pub small : weight ≤ 2 ^ 63
  pub below : bits < weight
  pub low : last < 64 → bits + bits < weight
  pub high : 64 ≤ last → weight ≤ bits + bits

weighs : (bits front last q : ℕ) → bits ≡ front + last * q → front < q → last < 128 → q ≤ 2 ^ 56 → Weighs bits (q * 128) last
weighs bits front last q is less byte few = record {
  small = omega arith;
  below = omega (arith, mul-le last q 127 q (omega arith) (omega arith));
  low = λ lt. omega (arith, mul-le last q 63 q (omega arith) (omega arith));
  high = λ le. omega (arith, mul-le 64 q last q le (omega arith));
}

pub weights : (bytes : List ℕ) → EndsOnce bytes → length bytes ≤ 9 → Weighs (magnitude bytes) (128 ^ length bytes) (last_byte bytes)
weights [] ends few = absurd ends
weights (b ∷ bytes) ends few =
    let n = length bytes in
    let whole : List ℕ = b ∷ bytes in
    let last : last_byte whole ≡ get_or whole n 0 = ap (λ k. get_or whole k 0) (omega arith) in
    let byte : get_or whole n 0 < 128 = omega (arith, last_below whole ends) in
    let small : get_or whole n 0 % 128 ≡ get_or whole n 0 = omega arith in
    let split : magnitude whole ≡ magnitude (take n whole) + get_or whole n 0 * 128 ^ n = rw small at (magnitude_split n whole refl) in
    let front : magnitude (take n whole) < 128 ^ n = magnitude_within (take n whole) n (omega (arith, length-take n whole)) in
    let eight : n ≤ 8 = omega arith in
    let grown : 128 ^ n ≤ 128 ^ 8 = pow-le-pow_right {n = 128} (omega arith) eight in
    rw (pow-suc 128 n, last) (weighs (magnitude whole) (magnitude (take n whole)) (get_or whole n 0) (128 ^ n) split front byte grown)

pub shifted : (n : ℕ) → n ≤ 9 → 1 * 2 ^ (7 * n) % 2 ^ 64 ≡ 128 ^ n
shifted n few = one_shl (7 * n) 64 (omega arith) ∙ pow_seven n

-- the bounds of a number of few bytes
pub signed_within : (k : ℕ) (bytes : List ℕ) → EndsOnce bytes → length bytes ≤ k → k ≤ 9 → (signed_value bytes <ℤ pos (128 ^ k)) × (neg_ℤ (pos (128 ^ k)) ≤ℤ (signed_value bytes +ℤ signed_value bytes)) × ((signed_value bytes +ℤ signed_value bytes) <ℤ pos (128 ^ k))
signed_within k bytes ends few nine =
    let nine' : length bytes ≤ 9 = omega arith in
    let w = weights bytes ends nine' in
    let grown : 128 ^ length bytes ≤ 128 ^ k = pow-le-pow_right {n = 128} (omega arith) few in
    elim (cases_lt (last_byte bytes) 64) [
      | inl low ↦ rw (lt-ltb _ _ low) (omega (arith, ints), omega (arith, ints), omega (arith, ints))
      | inr high ↦ rw (le-ltb _ _ high) (omega (arith, ints), omega (arith, ints), omega (arith, ints))
    ]

pub or_true : (x y : Bool) → (x || y) ≡ true → (x ≡ true) ⊎ (y ≡ true)
or_true true y e = inl refl
or_true false y e = inr e

pub s32_fits : (bytes : List ℕ) → IsSpelling S32 bytes → FitsSigned w32 (signed_value bytes)
s32_fits [] s = absurd s.ends
s32_fits (a ∷ []) s = let b = signed_within 4 (a ∷ []) s.ends (omega arith) (omega arith) in omega (arith, ints)
s32_fits (a ∷ b ∷ []) s = let b = signed_within 4 (a ∷ b ∷ []) s.ends (omega arith) (omega arith) in omega (arith, ints)
s32_fits (a ∷ b ∷ c ∷ []) s = let b = signed_within 4 (a ∷ b ∷ c ∷ []) s.ends (omega arith) (omega arith) in omega (arith, ints)
s32_fits (a ∷ b ∷ c ∷ d ∷ []) s = let b = signed_within 4 (a ∷ b ∷ c ∷ d ∷ []) s.ends (omega arith) (omega arith) in omega (arith, ints)
s32_fits (a ∷ b ∷ c ∷ d ∷ e ∷ []) s =
    let below : e < 128 = last_below (a ∷ b ∷ c ∷ d ∷ e ∷ []) s.ends in
    elim (or_true (ltb e 8) (leb 120 e) (s.tail refl)) [
      | inl low ↦ let few = ltb-true e 8 low in rw (lt-ltb e 64 (omega arith)) (omega (arith, ints))
      | inr high ↦ let many = leb-true 120 e high in rw (le-ltb e 64 (omega arith)) (omega (arith, ints))
    ]
s32_fits (a ∷ b ∷ c ∷ d ∷ e ∷ f ∷ bytes) s = absurd (omega (arith, s.within))

-- a number of ten bytes
pub ten : (bytes : List ℕ) → IsSpelling S64 bytes → 10 ≤ length bytes → (length bytes ≡ 10) × (magnitude bytes ≡ magnitude (take 9 bytes) + get_or bytes 9 0 % 128 * 128 ^ 9) × ((get_or bytes 9 0 ≡ 0) ⊎ (get_or bytes 9 0 ≡ 127)) × (last_byte bytes ≡ get_or bytes 9 0)
ten bytes s many =
    let len : length bytes ≡ 10 = omega (arith, s.within) in
    let last : last_byte bytes ≡ get_or bytes 9 0 = ap (λ k. get_or bytes k 0) (omega arith) in
    let allowed : (eqb (get_or bytes 9 0) 0 || eqb (get_or bytes 9 0) 127) ≡ true = rw last at (s.tail len) in (
      len,
      magnitude_split 9 bytes len,
      elim (or_true (eqb (get_or bytes 9 0) 0) (eqb (get_or bytes 9 0) 127) allowed) [
        | inl e ↦ inl (eqb-true _ _ e)
        | inr e ↦ inr (eqb-true _ _ e)
      ],
      last,
    )

-- at most nine bytes have no more than 63 bits
pub all_bits : (bits : ℕ) (bytes : List ℕ) → length bytes ≤ 9 → bits ≡ low_bits bytes → bits ≡ magnitude bytes
all_bits bits bytes few is = let below : magnitude bytes < 128 ^ 9 = magnitude_within bytes 9 few in omega (arith, is)

-- the low 64 bits of ten bytes, read with their sign
pub s64_by_bits : (bits : ℕ) (bytes : List ℕ) → IsSpelling S64 bytes → 10 ≤ length bytes → bits ≡ low_bits bytes → to_z w64 bits ≡ signed_value bytes
s64_by_bits bits bytes s many is =
    let t = ten bytes s many in
    let front : magnitude (take 9 bytes) < 128 ^ 9 = magnitude_within (take 9 bytes) 9 (omega (arith, length-take 9 bytes)) in
    elim t.2 [
      | inl zeros ↦
          let test : ltb (last_byte bytes) 64 ≡ true = lt-ltb _ _ (omega (arith, t.3)) in
          rw test (omega (arith, ints, t.1))
      | inr ones ↦
          let test : ltb (last_byte bytes) 64 ≡ false = le-ltb _ _ (omega (arith, t.3)) in
          let k = 2 ^ 63 - suc (magnitude (take 9 bytes)) in
          let high : bits ≡ 2 ^ 64 - suc k = omega (arith, is, t.1) in
          let less : k < 2 ^ 63 = omega arith in
          let value : pos (magnitude bytes) -ℤ pos (128 ^ 10) ≡ negsuc k = omega (arith, ints, t.1) in
          rw (test, t.0, high) (to_z-neg w64 k less ∙ sym value)
    ]
