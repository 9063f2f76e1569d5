-- What is spelled lies in the range of its form.
use Rattle.std.proofs.Common.{◌≡◌, ℕ, ◌+◌, ◌*◌, ◌%◌, ◌^◌, ◌<◌, ◌≤◌, List, [], ◌∷◌, length, take, refl, sym, ap, ◌∙◌, subst, arith, length-take, pos, neg_ℤ, ◌-ℤ◌, ◌<ℤ◌, ◌≤ℤ◌, ◌||◌, ltb, leb, inl, inr}
use Rattle.std.specs.Prelude.{cond, ℤ}
use Rattle.std.proofs.lemmas.Int.{ints}
use Rattle.std.proofs.lemmas.Bool.{ltb-true, leb-true, lt-ltb, le-ltb, cases_lt}
use Rattle.leb_codec.specs.declared.form.Form.TheVariants.{U32, S32, S33, S64}
use Rattle.leb_codec.specs.Spelling.{IsSpelling, Spells, last_byte, magnitude, signed_value}
use Rattle.leb_codec.proofs.Values.{u32_fits, s32_fits, signed_within, last_below, ten, magnitude_within, or_true}

-- A number of so many bits with a sign.
abbrev pub InRange : ℕ → ℤ → Type 0
InRange half z = (neg_ℤ (pos half) ≤ℤ z) × (z <ℤ pos half)

pub u32_range : (n : ℕ) (bytes : List ℕ) → Spells magnitude U32 bytes n → n < 2 ^ 32
u32_range n bytes s = subst (λ m. m < 2 ^ 32) (sym s.value_is) (u32_fits bytes s.spelled)

pub s32_range : (z : ℤ) (bytes : List ℕ) → Spells signed_value S32 bytes z → InRange (2 ^ 31) z
s32_range z bytes s = subst (InRange (2 ^ 31)) (sym s.value_is) (let f = s32_fits bytes s.spelled in (omega (arith, ints, f), omega (arith, ints, f)))

-- ---- 33 bits

s33_fits : (bytes : List ℕ) → IsSpelling S33 bytes → InRange (2 ^ 32) (signed_value bytes)
s33_fits [] s = absurd s.ends
s33_fits (a ∷ []) s = let b = signed_within 4 (a ∷ []) s.ends (omega arith) (omega arith) in (omega (arith, ints, b), omega (arith, ints, b))
s33_fits (a ∷ b ∷ []) s = let k = signed_within 4 (a ∷ b ∷ []) s.ends (omega arith) (omega arith) in (omega (arith, ints, k), omega (arith, ints, k))
s33_fits (a ∷ b ∷ c ∷ []) s = let k = signed_within 4 (a ∷ b ∷ c ∷ []) s.ends (omega arith) (omega arith) in (omega (arith, ints, k), omega (arith, ints, k))
s33_fits (a ∷ b ∷ c ∷ d ∷ []) s = let k = signed_within 4 (a ∷ b ∷ c ∷ d ∷ []) s.ends (omega arith) (omega arith) in (omega (arith, ints, k), omega (arith, ints, k))
s33_fits (a ∷ b ∷ c ∷ d ∷ e ∷ []) s =
    let below : e < 128 = last_below (a ∷ b ∷ c ∷ d ∷ e ∷ []) s.ends in
    elim (or_true (ltb e 16) (leb 112 e) (s.tail refl)) [
      | inl low ↦ let few = ltb-true e 16 low in rw (lt-ltb e 64 (omega arith)) (omega (arith, ints), omega (arith, ints))
      | inr high ↦ let many = leb-true 112 e high in rw (le-ltb e 64 (omega arith)) (omega (arith, ints), omega (arith, ints))
    ]
s33_fits (a ∷ b ∷ c ∷ d ∷ e ∷ f ∷ bytes) s = absurd (omega (arith, s.within))

pub s33_range : (z : ℤ) (bytes : List ℕ) → Spells signed_value S33 bytes z → InRange (2 ^ 32) z
s33_range z bytes s = subst (InRange (2 ^ 32)) (sym s.value_is) (s33_fits bytes s.spelled)

-- ---- 64 bits

few_bytes : (bytes : List ℕ) → IsSpelling S64 bytes → length bytes ≤ 9 → InRange (2 ^ 63) (signed_value bytes)
few_bytes bytes s few = let b = signed_within 9 bytes s.ends few (omega arith) in (omega (arith, ints, b.0, b.1, b.2), omega (arith, ints, b.0, b.1, b.2))

low_number : (m t : ℕ) (z : ℤ) → z ≡ pos m → m ≡ t + 0 * 128 ^ 9 → t < 128 ^ 9 → InRange (2 ^ 63) z
low_number m t z e k l = subst (InRange (2 ^ 63)) (sym e) (omega (arith, ints, k, l), omega (arith, ints, k, l))

high_number : (m t : ℕ) (z : ℤ) → z ≡ pos m -ℤ pos (128 ^ 10) → m ≡ t + 127 * 128 ^ 9 → t < 128 ^ 9 → InRange (2 ^ 63) z
high_number m t z e k l = subst (InRange (2 ^ 63)) (sym e) (omega (arith, ints, k, l), omega (arith, ints, k, l))

ten_bytes : (bytes : List ℕ) → IsSpelling S64 bytes → 10 ≤ length bytes → InRange (2 ^ 63) (signed_value bytes)
ten_bytes bytes s many =
    let t = ten bytes s many in
    let front : magnitude (take 9 bytes) < 128 ^ 9 = magnitude_within (take 9 bytes) 9 (omega (arith, length-take 9 bytes)) in
    elim t.2 [
      | inl z ↦
          let l : last_byte bytes < 64 = omega (arith, t.3, z) in
          let k : magnitude bytes ≡ magnitude (take 9 bytes) + 0 * 128 ^ 9 = t.1 ∙ ap (λ b. magnitude (take 9 bytes) + b % 128 * 128 ^ 9) z in
          low_number (magnitude bytes) (magnitude (take 9 bytes)) (signed_value bytes) (ap (λ q. cond q (pos (magnitude bytes)) (pos (magnitude bytes) -ℤ pos (128 ^ length bytes))) (lt-ltb (last_byte bytes) 64 l)) k front
      | inr z ↦
          let l : 64 ≤ last_byte bytes = omega (arith, t.3, z) in
          let k : magnitude bytes ≡ magnitude (take 9 bytes) + 127 * 128 ^ 9 = t.1 ∙ ap (λ b. magnitude (take 9 bytes) + b % 128 * 128 ^ 9) z in
          high_number (magnitude bytes) (magnitude (take 9 bytes)) (signed_value bytes) (ap (λ q. cond q (pos (magnitude bytes)) (pos (magnitude bytes) -ℤ pos (128 ^ length bytes))) (le-ltb (last_byte bytes) 64 l) ∙ ap (λ n. pos (magnitude bytes) -ℤ pos (128 ^ n)) t.0) k front
    ]

pub s64_range : (z : ℤ) (bytes : List ℕ) → Spells signed_value S64 bytes z → InRange (2 ^ 63) z
s64_range z bytes s = subst (InRange (2 ^ 63)) (sym s.value_is) (elim (cases_lt (length bytes) 10) [
  | inl l ↦ few_bytes bytes s.spelled (omega (arith, l))
  | inr l ↦ ten_bytes bytes s.spelled l
])
