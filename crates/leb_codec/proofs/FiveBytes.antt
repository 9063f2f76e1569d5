-- The number at the front of five bytes or more, where its form has five at most.
use Rattle.std.proofs.Common.{◌≡◌, ℕ, ℤ, ◌+◌, ◌*◌, ◌%◌, ◌<◌, ◌≤◌, true, false, ltb, leb, List, [], ◌∷◌, length, get_or, Result, Ok, Err, refl, arith, inl, inr, pos, neg_ℤ, ◌+ℤ◌, ◌*ℤ◌, ◌<ℤ◌, ◌≤ℤ◌}
use Rattle.std.proofs.lemmas.Int.{ints}
use Rattle.std.proofs.lemmas.Bool.{ltb-true, leb-true, lt-ltb, le-ltb, cases_lt}
use Rattle.leb_codec.specs.declared.form.Form.{Form}
use Rattle.leb_codec.specs.declared.form.Form.TheVariants.{S32}
use Rattle.leb_codec.specs.declared.fault.LebFault.{LebFault}
use Rattle.leb_codec.specs.declared.fault.LebFault.TheVariants.{Long, BadTail}
use Rattle.leb_codec.specs.Spelling.{greatest_of, is_allowed, signed_value}
use Rattle.leb_codec.specs.Reading.{end_within, end_of, number_at}
use Rattle.leb_codec.proofs.Values.{or_true}

-- what five bytes at the front say, by the first of them that is below 128
pub record InFive {N : Type 0} (value : List ℕ → N) (form : Form) (a b c d e : ℕ) (said : Result (N × ℕ) LebFault) : Type 0 where
  pub one : a < 128 → said ≡ Ok (value (a ∷ []), 1)
  pub two : 128 ≤ a → b < 128 → said ≡ Ok (value (a ∷ b ∷ []), 2)
  pub three : 128 ≤ a → 128 ≤ b → c < 128 → said ≡ Ok (value (a ∷ b ∷ c ∷ []), 3)
  pub four : 128 ≤ a → 128 ≤ b → 128 ≤ c → d < 128 → said ≡ Ok (value (a ∷ b ∷ c ∷ d ∷ []), 4)
  pub five : 128 ≤ a → 128 ≤ b → 128 ≤ c → 128 ≤ d → e < 128 → is_allowed form e ≡ true → said ≡ Ok (value (a ∷ b ∷ c ∷ d ∷ e ∷ []), 5)
  pub tail : 128 ≤ a → 128 ≤ b → 128 ≤ c → 128 ≤ d → e < 128 → is_allowed form e ≡ false → said ≡ Err BadTail
  pub long : 128 ≤ a → 128 ≤ b → 128 ≤ c → 128 ≤ d → 128 ≤ e → said ≡ Err Long

in_list : {N : Type 0} (value : List ℕ → N) (form : Form) (a b c d e : ℕ) (rest : List ℕ) → greatest_of form ≡ 5
    → InFive value form a b c d e (number_at value form (a ∷ b ∷ c ∷ d ∷ e ∷ rest))
unfolding number_at end_of end_within
in_list value form a b c d e rest most = record {
  one = λ l. rw (most, lt-ltb a 128 l, most) refl;
  two = λ h l. rw (most, le-ltb a 128 h, lt-ltb b 128 l, most) refl;
  three = λ h i l. rw (most, le-ltb a 128 h, le-ltb b 128 i, lt-ltb c 128 l, most) refl;
  four = λ h i j l. rw (most, le-ltb a 128 h, le-ltb b 128 i, le-ltb c 128 j, lt-ltb d 128 l, most) refl;
  five = λ h i j k l t. rw (most, le-ltb a 128 h, le-ltb b 128 i, le-ltb c 128 j, le-ltb d 128 k, lt-ltb e 128 l, t, most) refl;
  tail = λ h i j k l t. rw (most, le-ltb a 128 h, le-ltb b 128 i, le-ltb c 128 j, le-ltb d 128 k, lt-ltb e 128 l, t, most) refl;
  long = λ h i j k l. rw (most, le-ltb a 128 h, le-ltb b 128 i, le-ltb c 128 j, le-ltb d 128 k, le-ltb e 128 l) refl;
}

pub in_five : {N : Type 0} (value : List ℕ → N) (form : Form) (bytes : List ℕ) → greatest_of form ≡ 5 → 5 ≤ length bytes
    → InFive value form (get_or bytes 0 0) (get_or bytes 1 0) (get_or bytes 2 0) (get_or bytes 3 0) (get_or bytes 4 0) (number_at value form bytes)
in_five value form [] most there = absurd (omega arith)
in_five value form (a ∷ []) most there = absurd (omega arith)
in_five value form (a ∷ b ∷ []) most there = absurd (omega arith)
in_five value form (a ∷ b ∷ c ∷ []) most there = absurd (omega arith)
in_five value form (a ∷ b ∷ c ∷ d ∷ []) most there = absurd (omega arith)
in_five value form (a ∷ b ∷ c ∷ d ∷ e ∷ rest) most there = in_list value form a b c d e rest most

-- the value with a sign, by that of the last byte
pub signed_two : (a b : ℕ) → signed_value (a ∷ b ∷ []) ≡ pos (a % 128) +ℤ signed_value (b ∷ []) *ℤ pos 128
signed_two a b =
    elim (cases_lt b 64) [
      | inl low ↦ rw (lt-ltb b 64 low) (omega (arith, ints))
      | inr high ↦ rw (le-ltb b 64 high) (omega (arith, ints))
    ]

pub signed_three : (a b c : ℕ) → signed_value (a ∷ b ∷ c ∷ []) ≡ pos (a % 128 + b % 128 * 128) +ℤ signed_value (c ∷ []) *ℤ pos 16384
signed_three a b c =
    elim (cases_lt c 64) [
      | inl low ↦ rw (lt-ltb c 64 low) (omega (arith, ints))
      | inr high ↦ rw (le-ltb c 64 high) (omega (arith, ints))
    ]

pub signed_four : (a b c d : ℕ) → signed_value (a ∷ b ∷ c ∷ d ∷ []) ≡ pos (a % 128 + b % 128 * 128 + c % 128 * 16384) +ℤ signed_value (d ∷ []) *ℤ pos 2097152
signed_four a b c d =
    elim (cases_lt d 64) [
      | inl low ↦ rw (lt-ltb d 64 low) (omega (arith, ints))
      | inr high ↦ rw (le-ltb d 64 high) (omega (arith, ints))
    ]

pub signed_five : (a b c d e : ℕ) → signed_value (a ∷ b ∷ c ∷ d ∷ e ∷ []) ≡ pos (a % 128 + b % 128 * 128 + c % 128 * 16384 + d % 128 * 2097152) +ℤ signed_value (e ∷ []) *ℤ pos 268435456
signed_five a b c d e =
    elim (cases_lt e 64) [
      | inl low ↦ rw (lt-ltb e 64 low) (omega (arith, ints))
      | inr high ↦ rw (le-ltb e 64 high) (omega (arith, ints))
    ]

-- how large the value of a last byte is: the fifth has few bits
pub record IsWithin (half : ℕ) (n : ℤ) : Type 0 where
  pub low : neg_ℤ (pos half) ≤ℤ n
  pub high : n <ℤ pos half

pub last_within : (b : ℕ) → b < 128 → IsWithin 64 (signed_value (b ∷ []))
last_within b lt =
    elim (cases_lt b 64) [
      | inl low ↦ rw (lt-ltb b 64 low) (record { low = omega (arith, ints); high = omega (arith, ints) })
      | inr high ↦ rw (le-ltb b 64 high) (record { low = omega (arith, ints); high = omega (arith, ints) })
    ]

pub fifth_within : (b : ℕ) → b < 128 → is_allowed S32 b ≡ true → IsWithin 8 (signed_value (b ∷ []))
fifth_within b lt may =
    elim (or_true (ltb b 8) (leb 120 b) may) [
      | inl low ↦ let few = ltb-true b 8 low in rw (lt-ltb b 64 (omega arith)) (record { low = omega (arith, ints); high = omega (arith, ints) })
      | inr high ↦ let many = leb-true 120 b high in rw (le-ltb b 64 (omega arith)) (record { low = omega (arith, ints); high = omega (arith, ints) })
    ]
