-- Writing byte by byte.
use Rattle.std.proofs.Common.{◌≡◌, ℕ, zero, suc, ◌+◌, ◌-◌, ◌*◌, ◌/◌, ◌%◌, ◌^◌, ◌<◌, ◌≤◌, Bool, true, false, List, [], ◌∷◌, ◌++◌, length, take, drop, set, refl, sym, ap, ◌∙◌, arith, inl, inr, append_assoc, ℤ}
use Rattle.std.proofs.Math.Nat.{pow-suc}
use Rattle.std.proofs.lemmas.Bool.{cases_lt, lt-ltb, le-ltb}
use Rattle.std.proofs.lemmas.List.{take_more_set, drop-set-lt, drop-drop}
use Rattle.leb_codec.specs.Shortest.{shortest, shortest_above, shortest_below, shortest_signed, s32, s64}
use Rattle.leb_codec.specs.Writing.{turned, group}

-- ---- the bytes

-- one byte more, with others to come, or as the last
pub byte_more : (to : List ℕ) (len b : ℕ) (rest total : List ℕ) → len < length to → take len to ++ b ∷ rest ≡ total → take (len + 1) (set to len b) ++ rest ≡ total
byte_more to len b rest total room so_far = rw (take_more_set to len b room) (append_assoc (take len to) (b ∷ []) rest ∙ so_far)

pub byte_last : (to : List ℕ) (len b : ℕ) (total : List ℕ) → len < length to → take len to ++ b ∷ [] ≡ total → take (len + 1) (set to len b) ≡ total
byte_last to len b total room so_far = take_more_set to len b room ∙ so_far

-- what lies behind is left as it was
pub kept_more : (to before : List ℕ) (len b : ℕ) → drop len to ≡ drop len before → drop (len + 1) (set to len b) ≡ drop (len + 1) before
kept_more to before len b same =
    let past : drop (len + 1) (set to len b) ≡ drop (len + 1) to = drop-set-lt (len + 1) to len b (omega arith) in
    past ∙ sym (drop-drop 1 len to) ∙ ap (drop 1) same ∙ drop-drop 1 len before

-- ---- a number without a sign

-- what is left after a byte fits in the bytes that are left
pub left_more : (len rest : ℕ) → len ≤ 4 → rest < 128 ^ (5 - len) → 128 ≤ rest → (len < 4) × (rest / 128 < 128 ^ (5 - (len + 1)))
left_more len rest few left many =
    let k : 5 - len ≡ suc (5 - (len + 1)) = omega arith in
    let grown : rest < 128 * 128 ^ (5 - (len + 1)) = omega (arith, rw (k, pow-suc 128 (5 - (len + 1))) at left) in
    elim (cases_lt len 4) [
      | inl less ↦ (less, omega arith)
      | inr last ↦ let none : 5 - (len + 1) ≡ 0 = omega arith in absurd (let one = rw none at grown in omega arith)
    ]

pub shortest_more : (len rest : ℕ) → len < 4 → 128 ≤ rest → shortest (4 - len) rest ≡ (128 + rest % 128) ∷ shortest (4 - (len + 1)) (rest / 128)
shortest_more len rest less many =
    let k : 4 - len ≡ suc (4 - (len + 1)) = omega arith in
    rw (k, le-ltb rest 128 many) refl

pub shortest_end : (more rest : ℕ) → rest < 128 → shortest more rest ≡ rest ∷ []
shortest_end zero rest low = refl
shortest_end (suc more) rest low = rw (lt-ltb rest 128 low) refl

-- ---- a number with a sign

pub groups_left : (len rest : ℕ) → len ≤ 9 → rest < 64 * 128 ^ (9 - len) → 64 ≤ rest → (len < 9) × (rest / 128 < 64 * 128 ^ (9 - (len + 1)))
groups_left len rest few left many =
    elim (cases_lt len 9) [
      | inl less ↦
          let k : 9 - len ≡ suc (9 - (len + 1)) = omega arith in
          let grown : rest < 64 * (128 * 128 ^ (9 - (len + 1))) = omega (arith, rw (k, pow-suc 128 (9 - (len + 1))) at left) in (less, omega arith)
      | inr last ↦ let none : 9 - len ≡ 0 = omega arith in absurd (let one = rw none at left in omega arith)
    ]

pub groups_more : (negative : Bool) (len rest b : ℕ) → len < 9 → 64 ≤ rest → b ≡ group negative rest
    → shortest_signed (9 - len) (turned negative rest) ≡ (b + 128) ∷ shortest_signed (9 - (len + 1)) (turned negative (rest / 128))
groups_more true len rest b less many is =
    let k : 9 - len ≡ suc (9 - (len + 1)) = omega arith in
    let byte : 255 - rest % 128 ≡ b + 128 = omega arith in
    rw (k, le-ltb rest 64 many, byte) refl
groups_more false len rest b less many is =
    let k : 9 - len ≡ suc (9 - (len + 1)) = omega arith in
    let byte : 128 + rest % 128 ≡ b + 128 = omega arith in
    rw (k, le-ltb rest 64 many, byte) refl

pub groups_end : (negative : Bool) (more rest b : ℕ) → rest < 64 → b ≡ group negative rest → shortest_signed more (turned negative rest) ≡ b ∷ []
groups_end true zero rest b low is = ap (λ k. k ∷ []) (omega arith)
groups_end true (suc more) rest b low is = rw (lt-ltb rest 64 low) (ap (λ k. k ∷ []) (omega arith))
groups_end false zero rest b low is = ap (λ k. k ∷ []) (omega arith)
groups_end false (suc more) rest b low is = rw (lt-ltb rest 64 low) (ap (λ k. k ∷ []) (omega arith))

-- ---- room for more bytes than the number needs

above_same : (j k n : ℕ) → n < 64 * 128 ^ j → n < 64 * 128 ^ k → shortest_above j n ≡ shortest_above k n
above_same zero zero n lt less = refl
above_same zero (suc k) n lt less = let low : n < 64 = omega arith in rw (lt-ltb n 64 low) refl
above_same (suc j) zero n lt less = let low : n < 64 = omega arith in rw (lt-ltb n 64 low) refl
above_same (suc j) (suc k) n lt less =
    elim (cases_lt n 64) [
      | inl low ↦ rw (lt-ltb n 64 low) refl
      | inr high ↦
          let a : n / 128 < 64 * 128 ^ j = omega (arith, pow-suc 128 j) in
          let b : n / 128 < 64 * 128 ^ k = omega (arith, pow-suc 128 k) in
          rw (le-ltb n 64 high) (ap (λ bytes. (128 + n % 128) ∷ bytes) (above_same j k (n / 128) a b))
    ]

below_same : (j k n : ℕ) → n < 64 * 128 ^ j → n < 64 * 128 ^ k → shortest_below j n ≡ shortest_below k n
below_same zero zero n lt less = refl
below_same zero (suc k) n lt less = let low : n < 64 = omega arith in rw (lt-ltb n 64 low) refl
below_same (suc j) zero n lt less = let low : n < 64 = omega arith in rw (lt-ltb n 64 low) refl
below_same (suc j) (suc k) n lt less =
    elim (cases_lt n 64) [
      | inl low ↦ rw (lt-ltb n 64 low) refl
      | inr high ↦
          let a : n / 128 < 64 * 128 ^ j = omega (arith, pow-suc 128 j) in
          let b : n / 128 < 64 * 128 ^ k = omega (arith, pow-suc 128 k) in
          rw (le-ltb n 64 high) (ap (λ bytes. (255 - n % 128) ∷ bytes) (below_same j k (n / 128) a b))
    ]

pub groups_same : (negative : Bool) (n : ℕ) → n < 2 ^ 31 → shortest_signed 9 (turned negative n) ≡ shortest_signed 4 (turned negative n)
groups_same true n fits = below_same 9 4 n (omega arith) (omega arith)
groups_same false n fits = above_same 9 4 n (omega arith) (omega arith)

-- ---- what was written as bits is the number

pub s64_written : (negative : Bool) (bits : ℕ) (n : ℤ) (bytes : List ℕ) → n ≡ turned negative bits → bytes ≡ shortest_signed 9 (turned negative bits) → bytes ≡ s64 n
unfolding s64
s64_written negative bits n bytes is wrote = rw is wrote

pub s32_written : (negative : Bool) (bits : ℕ) (n : ℤ) (bytes : List ℕ) → bits < 2 ^ 31 → n ≡ turned negative bits → bytes ≡ shortest_signed 9 (turned negative bits) → bytes ≡ s32 n
unfolding s32
s32_written negative bits n bytes fits is wrote = rw is (wrote ∙ groups_same negative bits fits)
