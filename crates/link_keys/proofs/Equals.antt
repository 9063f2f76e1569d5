-- Lists of keys that are compared by an equality: places, numbers and lists without repeats.
use Rattle.std.proofs.Common.{◌≡◌, ◌⊎◌, inl, inr, ℕ, zero, suc, ◌+◌, ◌<◌, ◌≤◌, ◌==◌, nat_lt, Bool, true, false, ◌||◌, cond, List, [], ◌∷◌, ◌++◌, map, filter, length, slice_get, take, position, Option, Some, None, option_map, unwrap_or, refl, sym, ap, subst, ◌∙◌, arith, append-nil, add-one}
use Rattle.std.specs.Prelude.{if◌then◌else◌}
use Rattle.std.specs.List.{list_any, All}
use Rattle.std.proofs.lemmas.Bool.{ne_eqb}
use Rattle.std.proofs.lemmas.List.Folds.{list_any-append}
use Rattle.std.proofs.lemmas.Bool.Decides.{nat_tests}
use Rattle.std.proofs.lemmas.List.{map-append}
use Rattle.std.proofs.Math.Seq.{take-length}
use Rattle.std.proofs.lemmas.List.Elements.{filter-append}
use Rattle.link_program.specs.wl_base.Choice.{distinct, distinct_onto}
use Rattle.link_program.specs.index_layout.Numbers.{number_by}
use Rattle.link_keys.specs.Lists.{numbers_below}
use Rattle.link_keys.proofs.Positions.{position_next, position_first, position_stays, position_last, position_none, last_or_before, take_one}

or_true : (a b : Bool) → b ≡ true → (a || b) ≡ true
or_true true b e = refl
or_true false b e = e

pub none_past : {A : Type 0} (xs : List A) (n : ℕ) → slice_get xs n ≡ None → length xs ≤ n
none_past [] n none = omega arith
none_past (x ∷ xs) zero none = absurd cc
none_past (x ∷ xs) (suc n) none = let le = none_past xs n none in omega arith

module _ {A : Type 0} (same : A → A → Bool) (sound : (x y : A) → same x y ≡ true → x ≡ y) (whole : (x : A) → same x x ≡ true) where
  -- one of the list is the same
  abbrev pub Holds : List A → A → Type 0
  Holds xs x = list_any (same x) xs ≡ true

  -- ---- places

  pub record StandsAt (xs : List A) (x : A) : Type 0 where
    pub at : ℕ
    pub found : position (same x) xs ≡ Some at
    pub there : slice_get xs at ≡ Some x

  pub stands : (xs : List A) (x : A) → Holds xs x → StandsAt xs x
  stands [] x holds = absurd cc
  stands (y ∷ ys) x holds = by_head (same x y) refl (stands ys x)
    where
      by_head : (r : Bool) → same x y ≡ r → (Holds ys x → StandsAt ys x) → StandsAt (y ∷ ys) x
      by_head true is again = record { at = 0; found = position_first (same x) y ys is; there = ap Some (sym (sound x y is)) }
      by_head false is again =
          let rest : list_any (same x) ys ≡ true = cc in
          let s = again rest in
          record { at = suc s.at; found = position_next (same x) y ys is ∙ ap (option_map suc) s.found; there = s.there }

  pub holds_at : (xs : List A) (i : ℕ) (x : A) → slice_get xs i ≡ Some x → Holds xs x
  holds_at [] i x at = absurd cc
  holds_at (y ∷ ys) zero x at = let e : y ≡ x = cc in ap (λ b. b || list_any (same x) ys) (subst (λ z. same x z ≡ true) (sym e) (whole x))
  holds_at (y ∷ ys) (suc i) x at = or_true (same x y) (list_any (same x) ys) (holds_at ys i x at)

  -- what is found is held
  pub position_held : (xs : List A) (x : A) (n : ℕ) → position (same x) xs ≡ Some n → Holds xs x
  position_held xs x n found = by_held (list_any (same x) xs) refl
    where
      by_held : (r : Bool) → list_any (same x) xs ≡ r → r ≡ true
      by_held true is = refl
      by_held false is = absurd (let e : None ≡ Some n = sym (position_none (same x) xs is) ∙ found in cc)

  pub number_is : (xs : List A) (x : A) (n : ℕ) → position (same x) xs ≡ Some n → number_by same xs x ≡ n
  number_is xs x n at = ap (λ o. unwrap_or o 0) at

  -- Two that stand in a list have one number where they are the same.
  pub same_numbers : (xs : List A) (a b : A) → Holds xs a → Holds xs b → (number_by same xs a == number_by same xs b) ≡ same a b
  same_numbers xs a b ha hb = by_same (same a b) refl
    where
      by_same : (r : Bool) → same a b ≡ r → (number_by same xs a == number_by same xs b) ≡ r
      by_same true is = let e = sound a b is in rw e (grind (arith, nat_tests))
      by_same false is =
          let sa = stands xs a ha in
          let sb = stands xs b hb in
          let differ : sa.at ≡ sb.at → ⊥ = λ e.
          let one : Some a ≡ Some b = sym sa.there ∙ ap (slice_get xs) e ∙ sb.there in
          let eq : a ≡ b = cc in
          let t : same a b ≡ true = subst (λ z. same a z ≡ true) eq (whole a) in
          let f : true ≡ false = sym t ∙ is in absurd cc in
          rw (number_is xs a sa.at sa.found, number_is xs b sb.at sb.found) (ne_eqb sa.at sb.at differ)

  -- ---- lists without repeats

  -- Each item has its own place alone.
  abbrev pub OnePlace : List A → Type 0
  OnePlace xs = (i : ℕ) (x : A) → slice_get xs i ≡ Some x → position (same x) xs ≡ Some i

  one_more : (xs : List A) (x : A) → OnePlace xs → list_any (same x) xs ≡ false → OnePlace (xs ++ x ∷ [])
  one_more xs x one none i y at = elim (last_or_before xs x i y at) [
    | inl before ↦ position_stays (same y) xs (x ∷ []) i (one i y before)
    | inr last ↦ subst (λ z. position (same z) (xs ++ x ∷ []) ≡ Some i) last.1 (position_last (same x) xs x none (whole x) ∙ ap Some (sym last.0))
  ]

  one_seen : (seen : List A) (x : A) (r : Bool) → list_any (same x) seen ≡ r → OnePlace seen → OnePlace (if r then seen else seen ++ x ∷ [])
  one_seen seen x true is one = one
  one_seen seen x false is one = one_more seen x one is

  pub one_place_onto : (seen xs : List A) → OnePlace seen → OnePlace (distinct_onto same seen xs)
  one_place_onto seen [] one = one
  one_place_onto seen (x ∷ xs) one = one_place_onto (if list_any (same x) seen then seen else seen ++ x ∷ []) xs (one_seen seen x (list_any (same x) seen) refl one)

  pub one_place : (xs : List A) → OnePlace (distinct same xs)
  one_place xs = one_place_onto [] xs (λ i x at. absurd cc)

  pub same_sym : (a b : A) → same a b ≡ same b a
  same_sym a b = by_same (same a b) (same b a) refl refl
    where
      by_same : (r s : Bool) → same a b ≡ r → same b a ≡ s → r ≡ s
      by_same true true x y = refl
      by_same false false x y = refl
      by_same true false x y = let t : same b a ≡ true = subst (λ z. same b z ≡ true) (sym (sound a b x)) (whole b) in sym t ∙ y
      by_same false true x y = let t : same a b ≡ true = subst (λ z. same a z ≡ true) (sym (sound b a y)) (whole a) in sym x ∙ t

  -- The same with a number that is known.
  pub same_number : (xs : List A) (i : ℕ) (a b : A) → OnePlace xs → slice_get xs i ≡ Some a → Holds xs b → (number_by same xs b == i) ≡ same a b
  same_number xs i a b one at hb =
      ap (λ n. number_by same xs b == n) (sym (number_is xs a i (one i a at)))
      ∙ same_numbers xs b a hb (holds_at xs i a at) ∙ same_sym b a

  -- What a list holds, it holds without repeats.
  either : (x y : A) (seen ys : List A) (r : Bool) → list_any (same y) seen ≡ r → (list_any (same x) seen || (same x y || list_any (same x) ys)) ≡ true
      → (list_any (same x) (if r then seen else seen ++ y ∷ []) || list_any (same x) ys) ≡ true
  either x y seen ys true is e = by_same (same x y) (list_any (same x) seen) refl refl e
    where
      by_same : (r s : Bool) → same x y ≡ r → list_any (same x) seen ≡ s → (s || (r || list_any (same x) ys)) ≡ true → (s || list_any (same x) ys) ≡ true
      by_same r true a b e = refl
      by_same false false a b e = e
      by_same true false a b e = let t : list_any (same x) seen ≡ true = subst (λ z. list_any (same z) seen ≡ true) (sym (sound x y a)) is in let f : true ≡ false = sym t ∙ b in absurd cc
  either x y seen ys false is e = ap (λ s. s || list_any (same x) ys) (list_any-append (same x) seen (y ∷ [])) ∙ regroup (list_any (same x) seen) (same x y) (list_any (same x) ys) ∙ e
    where
      regroup : (a b c : Bool) → ((a || (b || false)) || c) ≡ (a || (b || c))
      regroup true b c = refl
      regroup false true c = refl
      regroup false false c = refl

  pub holds_onto : (x : A) (seen xs : List A) → (list_any (same x) seen || list_any (same x) xs) ≡ true → Holds (distinct_onto same seen xs) x
  holds_onto x seen [] e = by_seen (list_any (same x) seen) refl e
    where
      by_seen : (r : Bool) → list_any (same x) seen ≡ r → (r || false) ≡ true → list_any (same x) seen ≡ true
      by_seen true is e = is
      by_seen false is e = absurd cc
  holds_onto x seen (y ∷ ys) e = holds_onto x (if list_any (same y) seen then seen else seen ++ y ∷ []) ys (either x y seen ys (list_any (same y) seen) refl e)

  pub holds_distinct : (xs : List A) (x : A) → Holds xs x → Holds (distinct same xs) x
  holds_distinct xs x holds = holds_onto x [] xs holds

  onto_holds : (x : A) (seen xs : List A) → Holds (distinct_onto same seen xs) x → (list_any (same x) seen || list_any (same x) xs) ≡ true
  onto_holds x seen [] e = ap (λ b. b || false) e
  onto_holds x seen (y ∷ ys) e = back (list_any (same y) seen) (onto_holds x (if list_any (same y) seen then seen else seen ++ y ∷ []) ys e)
    where
      more : (a b c : Bool) → (a || c) ≡ true → (a || (b || c)) ≡ true
      more true b c h = refl
      more false true c h = refl
      more false false c h = h

      regroup : (a b c : Bool) → ((a || (b || false)) || c) ≡ (a || (b || c))
      regroup true b c = refl
      regroup false true c = refl
      regroup false false c = refl

      back : (r : Bool) → (list_any (same x) (if r then seen else seen ++ y ∷ []) || list_any (same x) ys) ≡ true → (list_any (same x) seen || (same x y || list_any (same x) ys)) ≡ true
      back true h = more (list_any (same x) seen) (same x y) (list_any (same x) ys) h
      back false h = sym (ap (λ s. s || list_any (same x) ys) (list_any-append (same x) seen (y ∷ [])) ∙ regroup (list_any (same x) seen) (same x y) (list_any (same x) ys)) ∙ h

  -- A list without repeats holds what the list holds.
  pub any_distinct : (xs : List A) (x : A) → list_any (same x) (distinct same xs) ≡ list_any (same x) xs
  any_distinct xs x = by_held (list_any (same x) (distinct same xs)) (list_any (same x) xs) refl refl
    where
      by_held : (r s : Bool) → list_any (same x) (distinct same xs) ≡ r → list_any (same x) xs ≡ s → r ≡ s
      by_held true true a b = refl
      by_held false false a b = refl
      by_held true false a b = sym (onto_holds x [] xs a) ∙ b
      by_held false true a b = sym a ∙ holds_distinct xs x b

  -- ---- numbers of those that pass

  abbrev pub passes : (A → Bool) → Option A → Bool
  passes test None = false
  passes test (Some x) = test x

  module _ (xs : List A) (one : OnePlace xs) (test : A → Bool) where
    abbrev at_place : ℕ → Bool
    at_place i = passes test (slice_get xs i)

    one_passes : (n : ℕ) (x : A) (r : Bool) → slice_get xs n ≡ Some x → test x ≡ r → map (number_by same xs) (filter test (x ∷ [])) ≡ (if at_place n then n ∷ [] else [])
    one_passes n x true at is = rw (at, is, number_is xs x n (one n x at)) refl
    one_passes n x false at is = rw (at, is) refl

    up_to : (n : ℕ) → n ≤ length xs → map (number_by same xs) (filter test (take n xs)) ≡ numbers_below at_place n
    up_to zero le = refl
    up_to (suc n) le = by_item (slice_get xs n) refl (up_to n (omega arith))
      where
        by_item : (o : Option A) → slice_get xs n ≡ o → map (number_by same xs) (filter test (take n xs)) ≡ numbers_below at_place n → map (number_by same xs) (filter test (take (suc n) xs)) ≡ numbers_below at_place (suc n)
        by_item None none before = absurd (let past = none_past xs n none in omega arith)
        by_item (Some x) at before = rw (take_one xs n x at, filter-append test (take n xs) (x ∷ []), map-append (number_by same xs) (filter test (take n xs)) (filter test (x ∷ [])), before, one_passes n x (test x) at refl) refl

    pub numbers_passing : map (number_by same xs) (filter test xs) ≡ numbers_below at_place (length xs)
    numbers_passing = ap (λ ys. map (number_by same xs) (filter test ys)) (sym (take-length xs)) ∙ up_to (length xs) (omega arith)

  -- ---- lists without repeats, filtered

  module _ (test : A → Bool) where
    filter_one : (seen : List A) (x : A) → test x ≡ true → list_any (same x) (filter test seen) ≡ list_any (same x) seen
    filter_one [] x is = refl
    filter_one (y ∷ seen) x is = by_head (test y) refl (filter_one seen x is)
      where
        by_same : (r : Bool) → same x y ≡ r → test y ≡ false → list_any (same x) (filter test seen) ≡ list_any (same x) seen → list_any (same x) (filter test seen) ≡ (r || list_any (same x) seen)
        by_same true s isnt again = let e : test y ≡ true = subst (λ z. test z ≡ true) (sound x y s) is in let f : true ≡ false = sym e ∙ isnt in absurd cc
        by_same false s isnt again = again

        by_head : (r : Bool) → test y ≡ r → list_any (same x) (filter test seen) ≡ list_any (same x) seen → list_any (same x) (cond r (y ∷ filter test seen) (filter test seen)) ≡ (same x y || list_any (same x) seen)
        by_head true e again = ap (λ r. same x y || r) again
        by_head false e again = by_same (same x y) refl e again

    pub filter_distinct_onto : (seen xs : List A) → distinct_onto same (filter test seen) (filter test xs) ≡ filter test (distinct_onto same seen xs)
    filter_distinct_onto seen [] = refl
    filter_distinct_onto seen (x ∷ xs) = by_test (test x) refl (filter_distinct_onto (if list_any (same x) seen then seen else seen ++ x ∷ []) xs)
      where
        more : (s : Bool) → (if s then filter test seen else filter test seen ++ filter test (x ∷ [])) ≡ filter test (if s then seen else seen ++ x ∷ [])
        more true = refl
        more false = sym (filter-append test seen (x ∷ []))

        kept : (s : Bool) → test x ≡ false → filter test seen ≡ (if s then filter test seen else filter test seen ++ filter test (x ∷ []))
        kept true is = refl
        kept false is = rw (is, append-nil) refl

        by_test : (r : Bool) → test x ≡ r → distinct_onto same (filter test (if list_any (same x) seen then seen else seen ++ x ∷ [])) (filter test xs) ≡ filter test (distinct_onto same (if list_any (same x) seen then seen else seen ++ x ∷ []) xs)
            → distinct_onto same (filter test seen) (cond r (x ∷ filter test xs) (filter test xs)) ≡ filter test (distinct_onto same (if list_any (same x) seen then seen else seen ++ x ∷ []) xs)
        by_test true is again =
            let one : filter test (x ∷ []) ≡ x ∷ [] = rw is refl in
            ap (λ s. distinct_onto same (if s then filter test seen else filter test seen ++ x ∷ []) (filter test xs)) (filter_one seen x is)
            ∙ ap (λ o. distinct_onto same (if list_any (same x) seen then filter test seen else filter test seen ++ o) (filter test xs)) (sym one)
            ∙ ap (λ s. distinct_onto same s (filter test xs)) (more (list_any (same x) seen))
            ∙ again
        by_test false is again =
            ap (λ s. distinct_onto same s (filter test xs)) (kept (list_any (same x) seen) is ∙ more (list_any (same x) seen))
            ∙ again

    still_held : (seen : List A) (x y : A) → Holds seen y → Holds (seen ++ x ∷ []) y
    still_held seen x y held = list_any-append (same y) seen (x ∷ []) ∙ rw held refl

    -- What comes behind adds none that passes, where all that pass are held already.
    pub settled : (seen xs : List A) → ((x : A) → test x ≡ true → Holds seen x) → filter test (distinct_onto same seen xs) ≡ filter test seen
    settled seen [] held = refl
    settled seen (x ∷ xs) held = by_seen (list_any (same x) seen) refl (settled seen xs held) (settled (seen ++ x ∷ []) xs (λ y is. still_held seen x y (held y is)))
      where
        by_test : (r : Bool) → test x ≡ r → list_any (same x) seen ≡ false → filter test (seen ++ x ∷ []) ≡ filter test seen
        by_test true is isnt = let f : true ≡ false = sym (held x is) ∙ isnt in absurd cc
        by_test false is isnt = filter-append test seen (x ∷ []) ∙ rw (is, append-nil) refl

        by_seen : (r : Bool) → list_any (same x) seen ≡ r → filter test (distinct_onto same seen xs) ≡ filter test seen → filter test (distinct_onto same (seen ++ x ∷ []) xs) ≡ filter test (seen ++ x ∷ [])
            → filter test (distinct_onto same (if r then seen else seen ++ x ∷ []) xs) ≡ filter test seen
        by_seen true is same_one more = same_one
        by_seen false is same_one more = more ∙ by_test (test x) refl is
