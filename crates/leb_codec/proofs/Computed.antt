-- The computed bytes spell their number, and no spelling is shorter.
use Rattle.std.proofs.Common.{◌≡◌, ℕ, zero, suc, ◌+◌, ◌-◌, ◌*◌, ◌/◌, ◌%◌, ◌^◌, ◌<◌, ◌≤◌, ltb, List, [], ◌∷◌, length, take, get_or, refl, sym, ap, ◌∙◌, arith, inl, inr, length-take, ℤ, pos, negsuc, ◌+ℤ◌, ◌-ℤ◌, ◌*ℤ◌, ◌<ℤ◌, ◌≤ℤ◌, neg_ℤ}
use Rattle.std.proofs.lemmas.Int.{ints}
use Rattle.std.proofs.lemmas.Bool.{lt-ltb, le-ltb, le-leb, cases_lt}
use Rattle.std.proofs.Math.Nat.{pow-suc}
use Rattle.std.proofs.Math.Bool.{or-true}
use native.Mathlib.Numerals.{unary_clauses}
use Rattle.leb_codec.specs.declared.form.Form.TheVariants.{U32, S32, S64}
use Rattle.leb_codec.specs.Spelling.{EndsOnce, IsSpelling, Spells, last_byte, magnitude, signed_value}
use Rattle.leb_codec.specs.Shortest.{shortest, shortest_above, shortest_below, shortest_signed, padded, padded_below, u32, u32_padded, s32, s32_padded, s64}
use Rattle.leb_codec.proofs.Laws.{EndsOnce-cons, EndsOnce-pos}
use Rattle.leb_codec.proofs.Values.{last_below, magnitude_split, magnitude_within}

-- ---- without a sign

pub shortest_ends : (more n : ℕ) → n < 128 ^ suc more → EndsOnce (shortest more n)
shortest_ends zero n lt = omega arith
shortest_ends (suc more) n lt =
    elim (cases_lt n 128) [
      | inl low ↦ rw (lt-ltb n 128 low) low
      | inr high ↦
          let less : n / 128 < 128 ^ suc more = omega (arith, pow-suc 128 (suc more)) in
          rw (le-ltb n 128 high) (EndsOnce-cons (128 + n % 128) (shortest more (n / 128)) (omega arith) (shortest_ends more (n / 128) less))
    ]

pub shortest_value : (more n : ℕ) → n < 128 ^ suc more → magnitude (shortest more n) ≡ n
shortest_value zero n lt = omega arith
shortest_value (suc more) n lt =
    elim (cases_lt n 128) [
      | inl low ↦ rw (lt-ltb n 128 low) (omega arith)
      | inr high ↦
          let less : n / 128 < 128 ^ suc more = omega (arith, pow-suc 128 (suc more)) in
          rw (le-ltb n 128 high, shortest_value more (n / 128) less) (omega arith)
    ]

pub shortest_length : (more n : ℕ) → length (shortest more n) ≤ suc more
shortest_length zero n = omega arith
shortest_length (suc more) n =
    elim (cases_lt n 128) [
      | inl low ↦ rw (lt-ltb n 128 low) (omega arith)
      | inr high ↦ rw (le-ltb n 128 high) (omega (arith, shortest_length more (n / 128)))
    ]

pub shortest_least : (more n : ℕ) (bytes : List ℕ) → 0 < length bytes → n ≡ magnitude bytes → length (shortest more n) ≤ length bytes
shortest_least zero n bytes some is = omega arith
shortest_least (suc more) n [] some is = absurd (omega arith)
shortest_least (suc more) n (b ∷ []) some is = let low : n < 128 = omega arith in rw (lt-ltb n 128 low) (omega arith)
shortest_least (suc more) n (b ∷ c ∷ bytes) some is =
    elim (cases_lt n 128) [
      | inl low ↦ rw (lt-ltb n 128 low) (omega arith)
      | inr high ↦
          let rest : n / 128 ≡ magnitude (c ∷ bytes) = omega arith in
          rw (le-ltb n 128 high) (omega (arith, shortest_least more (n / 128) (c ∷ bytes) (omega arith) rest))
    ]

-- bytes that end once, and few enough for the form, spell where their number is within the form's range
pub is_u32 : (bytes : List ℕ) → EndsOnce bytes → length bytes ≤ 5 → magnitude bytes < 2 ^ 32 → IsSpelling U32 bytes
is_u32 bytes ends few fits = record {
  within = few;
  ends = ends;
  tail = λ full.
      let last : last_byte bytes ≡ get_or bytes 4 0 = ap (λ k. get_or bytes k 0) (omega arith) in
      let split : magnitude bytes ≡ magnitude (take 4 bytes) + get_or bytes 4 0 % 128 * 128 ^ 4 = magnitude_split 4 bytes full in
      lt-ltb (last_byte bytes) 16 (omega (arith, last_below bytes ends));
}

pub u32_spells : (n : ℕ) → n < 2 ^ 32 → Spells magnitude U32 (u32 n) n
unfolding u32
u32_spells n fits =
    let room : n < 128 ^ 5 = omega arith in
    let value : magnitude (shortest 4 n) ≡ n = shortest_value 4 n room in
    record { spelled = is_u32 (shortest 4 n) (shortest_ends 4 n room) (shortest_length 4 n) (omega arith); value_is = sym value }

pub u32_least : (n : ℕ) (bytes : List ℕ) → Spells magnitude U32 bytes n → length (u32 n) ≤ length bytes
unfolding u32
u32_least n bytes s = shortest_least 4 n bytes (EndsOnce-pos bytes s.spelled.ends) s.value_is

-- ---- with a sign

-- the sign is in the last byte, so a byte more in front is a digit more
signed_more : (b : ℕ) (bytes : List ℕ) → 0 < length bytes → signed_value (b ∷ bytes) ≡ pos (b % 128) +ℤ pos 128 *ℤ signed_value bytes
signed_more b [] some = absurd (omega arith)
signed_more b (c ∷ bytes) some =
    let last : last_byte (b ∷ c ∷ bytes) ≡ last_byte (c ∷ bytes) = simp unary_clauses refl in
    elim (cases_lt (last_byte (c ∷ bytes)) 64) [
      | inl low ↦ rw (last, lt-ltb _ 64 low) (omega (arith, ints))
      | inr high ↦ rw (last, le-ltb _ 64 high, pow-suc 128 (length (c ∷ bytes))) (omega (arith, ints))
    ]

pub above_ends : (more n : ℕ) → n < 64 * 128 ^ more → EndsOnce (shortest_above more n)
above_ends zero n lt = omega arith
above_ends (suc more) n lt =
    elim (cases_lt n 64) [
      | inl low ↦ rw (lt-ltb n 64 low) (omega arith)
      | inr high ↦
          let less : n / 128 < 64 * 128 ^ more = omega (arith, pow-suc 128 more) in
          rw (le-ltb n 64 high) (EndsOnce-cons (128 + n % 128) (shortest_above more (n / 128)) (omega arith) (above_ends more (n / 128) less))
    ]

pub below_ends : (more n : ℕ) → EndsOnce (shortest_below more n)
below_ends zero n = omega arith
below_ends (suc more) n =
    elim (cases_lt n 64) [
      | inl low ↦ rw (lt-ltb n 64 low) (omega arith)
      | inr high ↦ rw (le-ltb n 64 high) (EndsOnce-cons (255 - n % 128) (shortest_below more (n / 128)) (omega arith) (below_ends more (n / 128)))
    ]

pub above_value : (more n : ℕ) → n < 64 * 128 ^ more → signed_value (shortest_above more n) ≡ pos n
above_value zero n lt = let low : n < 64 = omega arith in rw (lt-ltb n 64 low) (ap pos (omega arith))
above_value (suc more) n lt =
    elim (cases_lt n 64) [
      | inl low ↦ rw (lt-ltb n 64 low) (rw (lt-ltb n 64 low) (ap pos (omega arith)))
      | inr high ↦
          let less : n / 128 < 64 * 128 ^ more = omega (arith, pow-suc 128 more) in
          let rest : signed_value (shortest_above more (n / 128)) ≡ pos (n / 128) = above_value more (n / 128) less in
          let some = EndsOnce-pos (shortest_above more (n / 128)) (above_ends more (n / 128) less) in
          rw (le-ltb n 64 high) (signed_more (128 + n % 128) (shortest_above more (n / 128)) some ∙ rw rest (omega (arith, ints)))
    ]

pub below_value : (more n : ℕ) → n < 64 * 128 ^ more → signed_value (shortest_below more n) ≡ negsuc n
below_value zero n lt = let high : 64 ≤ 127 - n = omega arith in rw (le-ltb (127 - n) 64 high) (omega (arith, ints))
below_value (suc more) n lt =
    elim (cases_lt n 64) [
      | inl low ↦ let high : 64 ≤ 127 - n = omega arith in rw (lt-ltb n 64 low) (rw (le-ltb (127 - n) 64 high) (omega (arith, ints)))
      | inr high ↦
          let less : n / 128 < 64 * 128 ^ more = omega (arith, pow-suc 128 more) in
          let rest : signed_value (shortest_below more (n / 128)) ≡ negsuc (n / 128) = below_value more (n / 128) less in
          let some = EndsOnce-pos (shortest_below more (n / 128)) (below_ends more (n / 128)) in
          rw (le-ltb n 64 high) (signed_more (255 - n % 128) (shortest_below more (n / 128)) some ∙ rw rest (omega (arith, ints)))
    ]

pub above_length : (more n : ℕ) → length (shortest_above more n) ≤ suc more
above_length zero n = omega arith
above_length (suc more) n =
    elim (cases_lt n 64) [
      | inl low ↦ rw (lt-ltb n 64 low) (omega arith)
      | inr high ↦ rw (le-ltb n 64 high) (omega (arith, above_length more (n / 128)))
    ]

pub below_length : (more n : ℕ) → length (shortest_below more n) ≤ suc more
below_length zero n = omega arith
below_length (suc more) n =
    elim (cases_lt n 64) [
      | inl low ↦ rw (lt-ltb n 64 low) (omega arith)
      | inr high ↦ rw (le-ltb n 64 high) (omega (arith, below_length more (n / 128)))
    ]

-- a byte alone
byte_within : (b : ℕ) → b < 128 → (signed_value (b ∷ []) <ℤ pos 64) × (negsuc 64 <ℤ signed_value (b ∷ []))
byte_within b below =
    elim (cases_lt b 64) [
      | inl low ↦ rw (lt-ltb b 64 low) (omega (arith, ints), omega (arith, ints))
      | inr high ↦ rw (le-ltb b 64 high) (omega (arith, ints), omega (arith, ints))
    ]

above_least : (more n : ℕ) (bytes : List ℕ) → EndsOnce bytes → pos n ≡ signed_value bytes → length (shortest_above more n) ≤ length bytes
above_least zero n bytes ends is = EndsOnce-pos bytes ends
above_least (suc more) n [] ends is = absurd ends
above_least (suc more) n (b ∷ []) ends is =
    let within = byte_within b ends in
    let low : n < 64 = omega (arith, ints, is, within.0) in rw (lt-ltb n 64 low) (omega arith)
above_least (suc more) n (b ∷ c ∷ bytes) ends is =
    elim (cases_lt n 64) [
      | inl low ↦ rw (lt-ltb n 64 low) (omega arith)
      | inr high ↦
          let parts : pos n ≡ pos (b % 128) +ℤ pos 128 *ℤ signed_value (c ∷ bytes) = is ∙ signed_more b (c ∷ bytes) (omega arith) in
          let rest : pos (n / 128) ≡ signed_value (c ∷ bytes) = omega (arith, ints, parts) in
          rw (le-ltb n 64 high) (omega (arith, above_least more (n / 128) (c ∷ bytes) ends.1 rest))
    ]

below_least : (more n : ℕ) (bytes : List ℕ) → EndsOnce bytes → negsuc n ≡ signed_value bytes → length (shortest_below more n) ≤ length bytes
below_least zero n bytes ends is = EndsOnce-pos bytes ends
below_least (suc more) n [] ends is = absurd ends
below_least (suc more) n (b ∷ []) ends is =
    let within = byte_within b ends in
    let low : n < 64 = omega (arith, ints, is, within.1) in rw (lt-ltb n 64 low) (omega arith)
below_least (suc more) n (b ∷ c ∷ bytes) ends is =
    elim (cases_lt n 64) [
      | inl low ↦ rw (lt-ltb n 64 low) (omega arith)
      | inr high ↦
          let parts : negsuc n ≡ pos (b % 128) +ℤ pos 128 *ℤ signed_value (c ∷ bytes) = is ∙ signed_more b (c ∷ bytes) (omega arith) in
          let rest : negsuc (n / 128) ≡ signed_value (c ∷ bytes) = omega (arith, ints, parts) in
          rw (le-ltb n 64 high) (omega (arith, below_least more (n / 128) (c ∷ bytes) ends.1 rest))
    ]

signed_least : (more : ℕ) (z : ℤ) (bytes : List ℕ) → EndsOnce bytes → z ≡ signed_value bytes → length (shortest_signed more z) ≤ length bytes
signed_least more (pos n) bytes ends is = above_least more n bytes ends is
signed_least more (negsuc n) bytes ends is = below_least more n bytes ends is

back : (a b c : ℕ) → b ≡ c → (pos a -ℤ pos b) +ℤ pos c ≡ pos a
back a b c same = omega (arith, ints)

-- the value of n bytes and one more, by the last of them
record Split (n : ℕ) (bytes : List ℕ) : Type 0 where
  pub front : magnitude (take n bytes) < 128 ^ n
  pub low : last_byte bytes < 64 → signed_value bytes ≡ pos (magnitude (take n bytes) + last_byte bytes * 128 ^ n)
  pub high : 64 ≤ last_byte bytes → signed_value bytes +ℤ pos (128 ^ suc n) ≡ pos (magnitude (take n bytes) + last_byte bytes * 128 ^ n)

split : (n : ℕ) (bytes : List ℕ) → EndsOnce bytes → length bytes ≡ suc n → Split n bytes
split n bytes ends full =
    let last : last_byte bytes ≡ get_or bytes n 0 = ap (λ k. get_or bytes k 0) (omega arith) in
    let small : get_or bytes n 0 % 128 ≡ last_byte bytes = omega (arith, last_below bytes ends) in
    let parts : magnitude bytes ≡ magnitude (take n bytes) + last_byte bytes * 128 ^ n = rw small at (magnitude_split n bytes full) in
    record {
      front = magnitude_within (take n bytes) n (omega (arith, length-take n bytes));
      low = λ lt. rw (lt-ltb (last_byte bytes) 64 lt) (ap pos parts);
      high = λ le. rw (le-ltb (last_byte bytes) 64 le) (back (magnitude bytes) (128 ^ length bytes) (128 ^ suc n) (ap (λ k. 128 ^ k) full) ∙ ap pos parts);
    }

pub is_s32 : (bytes : List ℕ) → EndsOnce bytes → length bytes ≤ 5 → negsuc (2 ^ 31) <ℤ signed_value bytes → signed_value bytes <ℤ pos (2 ^ 31) → IsSpelling S32 bytes
is_s32 bytes ends few least most = record {
  within = few;
  ends = ends;
  tail = λ full.
      let s = split 4 bytes ends full in
      elim (cases_lt (last_byte bytes) 64) [
        | inl low ↦
            let value = s.low low in
            let small : last_byte bytes < 8 = omega (arith, ints, most, value) in rw (lt-ltb (last_byte bytes) 8 small) refl
        | inr high ↦
            let value = s.high high in
            let large : 120 ≤ last_byte bytes = omega (arith, ints, least, value, s.front) in rw (le-leb 120 (last_byte bytes) large, or-true (ltb (last_byte bytes) 8)) refl
      ];
}

pub is_s64 : (bytes : List ℕ) → EndsOnce bytes → length bytes ≤ 10 → negsuc (2 ^ 63) <ℤ signed_value bytes → signed_value bytes <ℤ pos (2 ^ 63) → IsSpelling S64 bytes
is_s64 bytes ends few least most = record {
  within = few;
  ends = ends;
  tail = λ full.
      let s = split 9 bytes ends full in
      elim (cases_lt (last_byte bytes) 64) [
        | inl low ↦
            let value = s.low low in
            let none : last_byte bytes ≡ 0 = omega (arith, ints, most, value) in rw none refl
        | inr high ↦
            let value = s.high high in
            let ones : last_byte bytes ≡ 127 = omega (arith, ints, least, value, s.front, last_below bytes ends) in rw ones refl
      ];
}

pub s32_spells : (z : ℤ) → negsuc (2 ^ 31) <ℤ z → z <ℤ pos (2 ^ 31) → Spells signed_value S32 (s32 z) z
unfolding s32
s32_spells (pos n) least most =
    let room : n < 64 * 128 ^ 4 = omega (arith, ints, most) in
    let value : signed_value (shortest_above 4 n) ≡ pos n = above_value 4 n room in
    record {
      spelled = is_s32 (shortest_above 4 n) (above_ends 4 n room) (above_length 4 n) (rw value least) (rw value most);
      value_is = sym value;
    }
s32_spells (negsuc n) least most =
    let room : n < 64 * 128 ^ 4 = omega (arith, ints, least) in
    let value : signed_value (shortest_below 4 n) ≡ negsuc n = below_value 4 n room in
    record {
      spelled = is_s32 (shortest_below 4 n) (below_ends 4 n) (below_length 4 n) (rw value least) (rw value most);
      value_is = sym value;
    }

pub s64_spells : (z : ℤ) → negsuc (2 ^ 63) <ℤ z → z <ℤ pos (2 ^ 63) → Spells signed_value S64 (s64 z) z
unfolding s64
s64_spells (pos n) least most =
    let room : n < 64 * 128 ^ 9 = omega (arith, ints, most) in
    let value : signed_value (shortest_above 9 n) ≡ pos n = above_value 9 n room in
    record {
      spelled = is_s64 (shortest_above 9 n) (above_ends 9 n room) (above_length 9 n) (rw value least) (rw value most);
      value_is = sym value;
    }
s64_spells (negsuc n) least most =
    let room : n < 64 * 128 ^ 9 = omega (arith, ints, least) in
    let value : signed_value (shortest_below 9 n) ≡ negsuc n = below_value 9 n room in
    record {
      spelled = is_s64 (shortest_below 9 n) (below_ends 9 n) (below_length 9 n) (rw value least) (rw value most);
      value_is = sym value;
    }

pub s32_least : (z : ℤ) (bytes : List ℕ) → Spells signed_value S32 bytes z → length (s32 z) ≤ length bytes
unfolding s32
s32_least z bytes s = signed_least 4 z bytes s.spelled.ends s.value_is

pub s64_least : (z : ℤ) (bytes : List ℕ) → Spells signed_value S64 bytes z → length (s64 z) ≤ length bytes
unfolding s64
s64_least z bytes s = signed_least 9 z bytes s.spelled.ends s.value_is

-- ---- in five bytes

pub u32_padded_spells : (n : ℕ) → n < 2 ^ 32 → Spells magnitude U32 (u32_padded n) n
unfolding u32_padded
u32_padded_spells n fits =
    let value : magnitude (padded 4 n) ≡ n = omega arith in
    let ends : EndsOnce (padded 4 n) = (omega arith, (omega arith, (omega arith, (omega arith, omega arith)))) in
    record { spelled = is_u32 (padded 4 n) ends (omega arith) (omega (arith, value)); value_is = sym value }

pub u32_padded_length : (n : ℕ) → length (u32_padded n) ≡ 5
unfolding u32_padded
u32_padded_length n = refl

-- five bytes by the last of them
five_above : (a b c d e : ℕ) → e < 64 → signed_value (a ∷ b ∷ c ∷ d ∷ e ∷ []) ≡ pos (magnitude (a ∷ b ∷ c ∷ d ∷ e ∷ []))
five_above a b c d e low = rw (lt-ltb e 64 low) refl

five_below : (a b c d e n : ℕ) → 64 ≤ e → magnitude (a ∷ b ∷ c ∷ d ∷ e ∷ []) + n + 1 ≡ 128 ^ 5 → signed_value (a ∷ b ∷ c ∷ d ∷ e ∷ []) ≡ negsuc n
five_below a b c d e n high sum = rw (le-ltb e 64 high) (omega (arith, ints, sum))

pub s32_padded_spells : (z : ℤ) → negsuc (2 ^ 31) <ℤ z → z <ℤ pos (2 ^ 31) → Spells signed_value S32 (s32_padded z) z
unfolding s32_padded
s32_padded_spells (pos n) least most =
    let room : n < 2 ^ 31 = omega (arith, ints, most) in
    let ends : EndsOnce (padded 4 n) = (omega arith, (omega arith, (omega arith, (omega arith, omega arith)))) in
    let sign : n / 128 / 128 / 128 / 128 < 64 = omega arith in
    let sum : magnitude (padded 4 n) ≡ n = omega arith in
    let value : signed_value (padded 4 n) ≡ pos n = five_above _ _ _ _ _ sign ∙ ap pos sum in
    record { spelled = is_s32 (padded 4 n) ends (omega arith) (rw value least) (rw value most); value_is = sym value }
s32_padded_spells (negsuc n) least most =
    let room : n < 2 ^ 31 = omega (arith, ints, least) in
    let ends : EndsOnce (padded_below 4 n) = (omega arith, (omega arith, (omega arith, (omega arith, omega arith)))) in
    let sign : 64 ≤ 127 - n / 128 / 128 / 128 / 128 = omega arith in
    let sum : magnitude (padded_below 4 n) + n + 1 ≡ 128 ^ 5 = omega arith in
    let value : signed_value (padded_below 4 n) ≡ negsuc n = five_below _ _ _ _ _ n sign sum in
    record { spelled = is_s32 (padded_below 4 n) ends (omega arith) (rw value least) (rw value most); value_is = sym value }

pub s32_padded_length : (z : ℤ) → length (s32_padded z) ≡ 5
unfolding s32_padded
s32_padded_length (pos n) = refl
s32_padded_length (negsuc n) = refl

pub s32_length : (z : ℤ) → length (s32 z) ≤ 5
unfolding s32
s32_length (pos n) = above_length 4 n
s32_length (negsuc n) = below_length 4 n

-- ---- the same, with the range as its two ends

pub s32_spelled : (z : ℤ) → neg_ℤ (pos (2 ^ 31)) ≤ℤ z → z <ℤ pos (2 ^ 31) → Spells signed_value S32 (s32 z) z
s32_spelled z least most = s32_spells z (omega (arith, ints, least)) most

pub s64_spelled : (z : ℤ) → neg_ℤ (pos (2 ^ 63)) ≤ℤ z → z <ℤ pos (2 ^ 63) → Spells signed_value S64 (s64 z) z
s64_spelled z least most = s64_spells z (omega (arith, ints, least)) most

pub s32_padded_spelled : (z : ℤ) → neg_ℤ (pos (2 ^ 31)) ≤ℤ z → z <ℤ pos (2 ^ 31) → Spells signed_value S32 (s32_padded z) z
s32_padded_spelled z least most = s32_padded_spells z (omega (arith, ints, least)) most
