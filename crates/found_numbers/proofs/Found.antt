-- Numbers that are believed, and what is counted.
use Rattle.std.proofs.Common.{◌≡◌, ℕ, ◌+◌, ◌<◌, ◌≤◌, Bool, true, false, List, [], ◌∷◌, filter, length, drop, get_or, slice_get, position, Option, Some, None, option_map, unwrap_or, refl, sym, ap, ◌∙◌, arith}
use Rattle.std.specs.Prelude.{if◌then◌else◌, cond}
use Rattle.std.proofs.lemmas.List.{at_drop_more}
use Rattle.std.proofs.lemmas.List.Quantifiers.{position-Some}
use Rattle.std.proofs.lemmas.Option.{slice_get-get_or}
use Rattle.link_program.specs.index_layout.Numbers.{number_by}
use Rattle.link_layout.proofs.Windows.{none_there}
use Rattle.found_numbers.specs.Found.{is_one, stands_at, if_there}

-- ---- numbers

-- where no key is found, the first one isn't it
no_first : {A : Type 0} (same : A → A → Bool) (keys : List A) (key : A) → position (same key) keys ≡ None → stands_at same keys 0 key ≡ false
no_first same [] key none = refl
no_first same (y ∷ ys) key none = none_there (same key) (y ∷ ys) none 0 y refl

module _ {A : Type 0} (same : A → A → Bool) (keys : List A) (key : A) (n : ℕ) (is : n ≡ number_by same keys key) where
  here : (k : ℕ) → position (same key) keys ≡ Some k → stands_at same keys n key ≡ true
  here k at =
      let w = position-Some (same key) keys k key at in
      let e : n ≡ k = is ∙ ap (λ o. unwrap_or o 0) at in
      ap (λ m. stands_at same keys m key) e ∙ (ap (is_one same key) (slice_get-get_or keys k key w.0) ∙ w.1)

  nowhere : position (same key) keys ≡ None → stands_at same keys n key ≡ false
  nowhere none = ap (λ m. stands_at same keys m key) (is ∙ ap (λ o. unwrap_or o 0) none) ∙ no_first same keys key none

  -- a number is believed where the key stands there
  pub believed : if_there (stands_at same keys n key) n ≡ position (same key) keys
  believed = by_place (position (same key) keys) refl
    where
      by_place : (o : Option ℕ) → position (same key) keys ≡ o → if_there (stands_at same keys n key) n ≡ position (same key) keys
      by_place None none = ap (λ b. if_there b n) (nowhere none) ∙ sym none
      by_place (Some k) at = ap (λ b. if_there b n) (here k at) ∙ (ap Some (is ∙ ap (λ o. unwrap_or o 0) at) ∙ sym at)

  -- the same of numbers that count from another one
  pub believed_from : (first : ℕ) → if_there (stands_at same keys n key) (first + n) ≡ option_map (λ k. first + k) (position (same key) keys)
  believed_from first = by_place (position (same key) keys) refl
    where
      by_place : (o : Option ℕ) → position (same key) keys ≡ o → if_there (stands_at same keys n key) (first + n) ≡ option_map (λ k. first + k) (position (same key) keys)
      by_place None none = ap (λ b. if_there b (first + n)) (nowhere none) ∙ sym (ap (option_map (λ k. first + k)) none)
      by_place (Some k) at =
          ap (λ b. if_there b (first + n)) (here k at)
          ∙ (ap (λ m. Some (first + m)) (is ∙ ap (λ o. unwrap_or o 0) at) ∙ sym (ap (option_map (λ k. first + k)) at))

-- ---- counting

-- one more that is counted or not, by its place
counted_more : {A : Type 0} (test : A → Bool) (g : Option A → Bool) → ((a : A) → g (Some a) ≡ test a) → (xs : List A) (i : ℕ) → i < length xs → (count whole : ℕ) (b : Bool)
    → g (slice_get xs i) ≡ b → count + length (filter test (drop i xs)) ≡ whole → (if b then count + 1 else count) + length (filter test (drop (i + 1) xs)) ≡ whole
counted_more test g each [] i lt count whole b is so_far = absurd (omega (arith, lt))
counted_more {A} test g each (x ∷ xs) i lt count whole b is so_far =
    let all : List A = x ∷ xs in
    let item = get_or all i x in
    let rest = filter test (drop (i + 1) all) in
    let one : test item ≡ b = sym (each item) ∙ (ap g (sym (slice_get-get_or all i x lt)) ∙ is) in
    by b (ap (λ c. count + length (cond c (item ∷ rest) rest)) (sym one) ∙ (sym (at_drop_more (λ (ys : List A). count + length (filter test ys)) all i x lt) ∙ so_far))
  where
    by : (b : Bool) → count + length (cond b (get_or (x ∷ xs) i x ∷ filter test (drop (i + 1) (x ∷ xs))) (filter test (drop (i + 1) (x ∷ xs)))) ≡ whole
        → (if b then count + 1 else count) + length (filter test (drop (i + 1) (x ∷ xs))) ≡ whole
    by true is = omega (arith, is)
    by false is = omega (arith, is)

-- the same, where no more are counted than were passed
pub counted_step : {A : Type 0} (test : A → Bool) (g : Option A → Bool) → ((a : A) → g (Some a) ≡ test a) → (xs : List A) (i : ℕ) → i < length xs → (count new whole : ℕ) (b : Bool)
    → g (slice_get xs i) ≡ b → new ≡ (if b then count + 1 else count) → (count ≤ i) × (count + length (filter test (drop i xs)) ≡ whole)
    → (new ≤ i + 1) × (new + length (filter test (drop (i + 1) xs)) ≡ whole)
counted_step test g each xs i lt count new whole b is step so_far =
    (few b step, ap (λ n. n + length (filter test (drop (i + 1) xs))) step ∙ counted_more test g each xs i lt count whole b is so_far.1)
  where
    few : (b : Bool) → new ≡ (if b then count + 1 else count) → new ≤ i + 1
    few true step = omega (arith, step, so_far.0)
    few false step = omega (arith, step, so_far.0)
