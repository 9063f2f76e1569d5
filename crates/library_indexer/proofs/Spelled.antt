-- The parts of an index are spelled as an index is read: the digits of its size, its words, and its names.
use Rattle.std.proofs.Common.{◌≡◌, ℕ, zero, suc, ◌+◌, ◌-◌, ◌*◌, ◌/◌, ◌%◌, ◌^◌, ◌≤◌, ◌<◌, Bool, true, false, ◌&&◌, ◌||◌, eqb, nat_le, List, [], ◌∷◌, ◌++◌, length, drop, refl, arith, append_assoc, length-drop}
use Rattle.std.specs.Prelude.{All, decimal, fold, map, min, codes, not}
use Rattle.std.specs.List.{flat_map, list_all, list_any}
use Rattle.std.specs.Char.{is_ascii_digit}
use Rattle.std.proofs.lemmas.Bool.Decides.{nat_tests}
use Rattle.std.proofs.lemmas.Bool.{eqb-true}
use Rattle.std.proofs.lemmas.Fmt.{decimal_by_steps, decimal_nonempty, length-decimal-le}
use Rattle.std.proofs.lemmas.Nat.{from_be_bytes-to_be_bytes_4}
use Rattle.std.proofs.lemmas.List.{length-append}
use Rattle.std.proofs.lemmas.List.Elements.{All-nil, All-cons, All-head, All-tail, All-append}
use Rattle.lib_index.specs.Archive.{decimal as value_of, IsDigit, SpellsNumber}
use Rattle.lib_index.specs.Library.{SpellsWord, AreWords, AreNames}
use Rattle.library_indexer.specs.Index.{word, spaced, moved_by, moved_word}
use Rattle.library_indexer.specs.Indexed.{ended, can_be_told}

-- ---- the size

both : (a b : Bool) → (a && b) ≡ true → (a ≡ true) × (b ≡ true)
both true b e = (refl, e)
both false b e = absurd cc

record Digits (n : ℕ) (ds : List ℕ) : Type 0 where
  digits : All IsDigit ds
  value : n ≡ value_of ds

digit_is : (r : ℕ) → r < 10 → is_ascii_digit (48 + r) ≡ true
digit_is r h =
    let least : nat_le 48 (48 + r) ≡ true = grind (arith, nat_tests) in
    let most : nat_le (48 + r) 57 ≡ true = grind (arith, nat_tests) in
    (λ i. least i && most i)

fold_last : (ds : List ℕ) (d n : ℕ) → fold (λ n digit. 10 * n + (digit - 48)) n (ds ++ d ∷ []) ≡ 10 * fold (λ n digit. 10 * n + (digit - 48)) n ds + (d - 48)
fold_last [] d n = refl
fold_last (c ∷ ds) d n = fold_last ds d (10 * n + (c - 48))

one_digit : (n : ℕ) → n < 10 → Digits n ((48 + n) ∷ [])
one_digit n h = record { digits = All-cons IsDigit (48 + n) [] (digit_is n h) (All-nil IsDigit); value = omega arith }

more_digits : (n : ℕ) (ds : List ℕ) → 10 ≤ n → Digits (n / 10) ds → Digits n (ds ++ (48 + n % 10) ∷ [])
more_digits n ds h s =
    let r : ℕ = n % 10 in
    record {
      digits = All-append IsDigit ds ((48 + r) ∷ []) s.digits (All-cons IsDigit (48 + r) [] (digit_is r (omega arith)) (All-nil IsDigit));
      value = omega (arith, fold_last ds (48 + r) 0, s.value);
    }

abbrev IsSpace : ℕ → Type 0
IsSpace b = b ≡ 32

all_spaces : (bytes : List ℕ) → list_all (λ b. eqb b 32) bytes ≡ true → All IsSpace bytes
all_spaces [] e = All-nil IsSpace
all_spaces (b ∷ bytes) e =
    let p = both (eqb b 32) (list_all (λ b. eqb b 32) bytes) e in
    All-cons IsSpace b bytes (eqb-true b 32 p.0) (all_spaces bytes p.1)

drops : (k : ℕ) (bytes : List ℕ) → All IsSpace bytes → All IsSpace (drop k bytes)
drops zero bytes all = all
drops (suc k) [] all = all
drops (suc k) (b ∷ bytes) all = drops k bytes (All-tail IsSpace b bytes all)

spaces_left : (k : ℕ) → All IsSpace (drop k (codes "          "))
spaces_left k = drops k (codes "          ") (all_spaces (codes "          ") refl)

pub size_is_spelled : (n : ℕ) → n < 2 ^ 32 → SpellsNumber n (spaced (decimal n))
size_is_spelled n small =
    let s : Digits n (decimal n) = decimal_by_steps (λ m ds. Digits m ds) one_digit more_digits n (omega arith) in
    record {
      digits = decimal n;
      spaces = drop (min (length (decimal n)) 10) (codes "          ");
      parts = refl;
      some = decimal_nonempty n (omega arith);
      all_digits = s.digits;
      all_spaces = spaces_left (min (length (decimal n)) 10);
      value = s.value;
    }

pub size_is_ten : (n : ℕ) → n < 2 ^ 32 → length (spaced (decimal n)) ≡ 10
size_is_ten n small =
    let few : length (decimal n) ≤ 10 = length-decimal-le 10 n (omega arith) (omega arith) (omega arith) in
    omega (arith, few, length-append (decimal n) (drop (min (length (decimal n)) 10) (codes "          ")), length-drop (min (length (decimal n)) 10) (codes "          "))

-- ---- words

pub word_is_spelled : (n : ℕ) → n < 2 ^ 32 → SpellsWord n (word n)
word_is_spelled n small = (refl, omega (arith, from_be_bytes-to_be_bytes_4 n small))

pub words_are_spelled : (size : ℕ) (places : List ℕ) → All (λ p. p + moved_by size < 2 ^ 32) places → AreWords (map (λ p. p + moved_by size) places) (flat_map (moved_word size) places)
words_are_spelled size [] all = refl
words_are_spelled size (p ∷ places) all =
    let P : ℕ → Type 0 = λ p. p + moved_by size < 2 ^ 32 in
    (moved_word size p, flat_map (moved_word size) places, refl, word_is_spelled (p + moved_by size) (All-head P p places all), words_are_spelled size places (All-tail P p places all))

pub words_are_long : (size : ℕ) (places : List ℕ) → length (flat_map (moved_word size) places) ≡ 4 * length places
words_are_long size [] = refl
words_are_long size (p ∷ places) = omega (arith, words_are_long size places)

-- ---- names

abbrev IsPart : ℕ → Type 0
IsPart b = 0 < b

some_part : (b : ℕ) → eqb b 0 ≡ false → 0 < b
some_part zero e = absurd cc
some_part (suc b) e = omega arith

one_part : (t u : Bool) → not (t || u) ≡ true → (t ≡ false) × (not u ≡ true)
one_part true u e = absurd cc
one_part false u e = (refl, e)

no_zero : (name : List ℕ) → can_be_told name ≡ true → All IsPart name
no_zero [] e = All-nil IsPart
no_zero (b ∷ name) e =
    let p = one_part (eqb b 0) (list_any (λ b. eqb b 0) name) e in
    All-cons IsPart b name (some_part b p.0) (no_zero name p.1)

pub names_are_spelled : (names : List (List ℕ)) → list_all can_be_told names ≡ true → AreNames names (flat_map ended names)
names_are_spelled [] e = refl
names_are_spelled (name ∷ names) e =
    let p = both (can_be_told name) (list_all can_be_told names) e in
    (flat_map ended names, append_assoc name (0 ∷ []) (flat_map ended names), no_zero name p.0, names_are_spelled names p.1)
