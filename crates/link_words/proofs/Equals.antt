-- The parts around the first `=`.
use Rattle.std.proofs.Common.{◌≡◌, ℕ, ◌+◌, ◌<◌, Bool, true, false, not, cond, ◌||◌, List, [], ◌∷◌, ◌++◌, length, get_or, take, drop, nat_lt, Some, None, refl, ap, ◌∙◌, arith}
use Rattle.std.proofs.lemmas.Bool.Decides.{nat_tests}
use Rattle.std.proofs.lemmas.Grind.{common_steps}
use Rattle.std.proofs.lemmas.List.{take_at}
use Rattle.std.proofs.Math.Seq.{drop-append-add}
use Rattle.std.proofs.lemmas.List.Sums.{split_at_first, passes_at_first}
use Rattle.std.specs.List.{position_or_len, before_first, after_first, list_any}
use Rattle.link_words.specs.Cut.{is_equals, parts_of}

-- a word that has parts is these around a `=`
pub parts_found : (word : List ℕ) (p : List ℕ × List ℕ) → parts_of word ≡ Some p → word ≡ p.0 ++ 61 ∷ p.1
parts_found word p e = by (nat_lt (position_or_len is_equals word) (length word)) refl e
  where
    by : (b : Bool) → nat_lt (position_or_len is_equals word) (length word) ≡ b → cond b (Some (before_first is_equals word, after_first is_equals word)) None ≡ Some p → word ≡ p.0 ++ 61 ∷ p.1
    by false _ e = absurd cc
    by true is e =
        let within : position_or_len is_equals word < length word = grind (arith, nat_tests) in
        let here : get_or word (position_or_len is_equals word) 0 ≡ 61 = let t = passes_at_first is_equals word 0 within in grind (arith, nat_tests) in
        let parts : (before_first is_equals word, after_first is_equals word) ≡ p = cc in
        split_at_first is_equals word 0 within ∙ ap (λ n. before_first is_equals word ++ (n ∷ after_first is_equals word)) here ∙ ap (λ (q : List ℕ × List ℕ). q.0 ++ 61 ∷ q.1) parts

place : (name text : List ℕ) → list_any is_equals name ≡ false → position_or_len is_equals (name ++ 61 ∷ text) ≡ length name
place [] text none = refl
place (b ∷ name) text none = by (is_equals b) (place name text) none
  where
    by : (t : Bool) → (list_any is_equals name ≡ false → position_or_len is_equals (name ++ 61 ∷ text) ≡ length name) → (t || list_any is_equals name) ≡ false
        → cond (not t) (1 + position_or_len is_equals (name ++ 61 ∷ text)) 0 ≡ length (b ∷ name)
    by true rest none = absurd cc
    by false rest none = let h = rest none in omega (arith, h)

no_place : (word : List ℕ) → list_any is_equals word ≡ false → position_or_len is_equals word ≡ length word
no_place [] none = refl
no_place (b ∷ word) none = by (is_equals b) (no_place word) none
  where
    by : (t : Bool) → (list_any is_equals word ≡ false → position_or_len is_equals word ≡ length word) → (t || list_any is_equals word) ≡ false
        → cond (not t) (1 + position_or_len is_equals word) 0 ≡ length (b ∷ word)
    by true rest none = absurd cc
    by false rest none = let h = rest none in omega (arith, h)

-- a word without a `=` has no parts
pub no_parts : (word : List ℕ) → list_any is_equals word ≡ false → parts_of word ≡ None
no_parts word none =
    let at = no_place word none in
    let past : nat_lt (position_or_len is_equals word) (length word) ≡ false = grind (arith, nat_tests) in
    ap (λ b. cond b (Some (before_first is_equals word, after_first is_equals word)) None) past

pub any_equals : (name text : List ℕ) → list_any is_equals (name ++ 61 ∷ text) ≡ true
any_equals [] text = refl
any_equals (b ∷ name) text = by (is_equals b) (any_equals name text)
  where
    by : (t : Bool) → list_any is_equals (name ++ 61 ∷ text) ≡ true → (t || list_any is_equals (name ++ 61 ∷ text)) ≡ true
    by true _ = refl
    by false rest = rest

-- what stands before a `=`, and has none, is the first part
pub parts_again : (name text : List ℕ) → list_any is_equals name ≡ false → parts_of (name ++ 61 ∷ text) ≡ Some (name, text)
parts_again name text none =
    let at = place name text none in
    let within : nat_lt (length name) (length (name ++ 61 ∷ text)) ≡ true = grind (arith, nat_tests, common_steps) in
    let front : take (length name) (name ++ 61 ∷ text) ≡ name = take_at name (61 ∷ text) (length name) refl in
    let back : drop (length name + 1) (name ++ 61 ∷ text) ≡ text = drop-append-add name (61 ∷ text) 1 in
    ap (λ n. cond (nat_lt n (length (name ++ 61 ∷ text))) (Some (take n (name ++ 61 ∷ text), drop (n + 1) (name ++ 61 ∷ text))) None) at
    ∙ ap (λ b. cond b (Some (take (length name) (name ++ 61 ∷ text), drop (length name + 1) (name ++ 61 ∷ text))) None) within
    ∙ (λ j. Some (front j, back j))
