-- Lists of which each item is computed by itself.
use Rattle.std.proofs.Common.{◌≡◌, ℕ, zero, suc, ◌+◌, ◌-◌, ◌*◌, ◌<◌, ◌≤◌, List, [], ◌∷◌, ◌++◌, length, length-append, map, refl, sym, ap, subst, ◌∙◌, arith}
use Rattle.std.specs.Prelude.{slice_index_or}
use Rattle.std.proofs.lemmas.List.{take_more_set}
use Rattle.std.proofs.Math.ListN.{take, set}
use Rattle.std.proofs.Math.Seq.{take-length}
use Rattle.wl_fan.specs.Slices.{Works}
use Rattle.wl_fan.proofs.Whole.{whole}
use Rattle.wl_each.specs.Items.{items_from, begin_at}
use Rattle.wl_each.specs.Dealt.{begins_rise, begins_early, begins_late}

module _ {T : Type 0} where
  pub items_long : (item : ℕ → T) (at count : ℕ) → length (items_from item at count) ≡ count
  items_long item at zero = refl
  items_long item at (suc count) = ap (λ (n : ℕ). suc n) (items_long item (at + 1) count)

  pub items_both : (item : ℕ → T) (at m n : ℕ) → items_from item at (m + n) ≡ items_from item at m ++ items_from item (at + m) n
  items_both item at zero n =
      let none : 0 + n ≡ n = omega arith in
      let same : at ≡ at + 0 = omega arith in
      ap (λ (k : ℕ). items_from item at k) none ∙ ap (λ (k : ℕ). items_from item k n) same
  items_both item at (suc m) n =
      let place : at + 1 + m ≡ at + suc m = omega arith in
      let more : suc m + n ≡ suc (m + n) = omega arith in
      ap (λ (k : ℕ). items_from item at k) more ∙ ap (λ (xs : List T). item at ∷ xs) (items_both item (at + 1) m n ∙ ap (λ (k : ℕ). items_from item (at + 1) m ++ items_from item k n) place)

  -- one item more is put
  pub next_put : (item : ℕ → T) (from at : ℕ) (xs : List T) (x : T) → at < length xs → x ≡ item (from + at) → take at xs ≡ items_from item from at → take (at + 1) (set xs at x) ≡ items_from item from (at + 1)
  next_put item from at xs x low is told =
      take_more_set xs at x low ∙ ap (λ (ys : List T). ys ++ x ∷ []) told ∙ ap (λ (y : T). items_from item from at ++ y ∷ []) is ∙ sym (items_both item from at 1)

  pub all_put : (item : ℕ → T) (from at : ℕ) (xs : List T) → at ≡ length xs → take at xs ≡ items_from item from at → xs ≡ items_from item from (length xs)
  all_put item from at xs is told = sym (take-length xs) ∙ ap (λ (n : ℕ). take n xs) (sym is) ∙ told ∙ ap (λ (n : ℕ). items_from item from n) is

  -- a list that is written back whole
  pub whole_back : (n : ℕ) (new rest : List T) → n ≡ length new → take n (new ++ rest) ≡ new
  whole_back zero [] rest e = refl
  whole_back (suc n) [] rest e = absurd (omega (arith, e))
  whole_back zero (x ∷ new) rest e = absurd (omega (arith, e))
  whole_back (suc n) (x ∷ new) rest e = ap (λ (xs : List T). let ys : List T = x ∷ xs in ys) (whole_back n new rest (omega (arith, e)))

  -- from item to item of a list
  items_shifted : (item other : ℕ → T) (at by count : ℕ) → ((k : ℕ) → item (k + by) ≡ other k) → items_from item (at + by) count ≡ items_from other at count
  items_shifted item other at by zero same = refl
  items_shifted item other at by (suc count) same =
      let place : at + by + 1 ≡ at + 1 + by = omega arith in
      ap (λ (xs : List T). item (at + by) ∷ xs) (ap (λ (k : ℕ). items_from item k count) place ∙ items_shifted item other (at + 1) by count same)
      ∙ ap (λ (x : T). x ∷ items_from other (at + 1) count) (same at)

-- what is computed of each item of a list
pub items_mapped : {A T : Type 0} (f : A → T) (d : A) (xs : List A) → items_from (λ i. f (slice_index_or xs i d)) 0 (length xs) ≡ map f xs
items_mapped f d [] = refl
items_mapped {A = A} {T = T} f d (x ∷ xs) =
    let later : (k : ℕ) → f (slice_index_or (x ∷ xs) (k + 1) d) ≡ f (slice_index_or xs k d) = λ k. let next : k + 1 ≡ suc k = omega arith in ap (λ (i : ℕ). f (slice_index_or (x ∷ xs) i d)) next in
    ap (λ (ys : List T). f x ∷ ys) (items_shifted (λ i. f (slice_index_or (x ∷ xs) i d)) (λ i. f (slice_index_or xs i d)) 0 1 (length xs) later ∙ items_mapped f d xs)

-- All parts together.
module _ {T : Type 0} (item : ℕ → T) (share parts count : ℕ) (some : 1 ≤ parts) (fits : parts * share ≤ count) where
  abbrev at : ℕ → ℕ
  at k = begin_at share parts count k

  abbrev Worked : ℕ → List T → List T → Type 0
  Worked k old new = new ≡ items_from item (at k) (length old)

  abbrev Made : ℕ → ℕ → List T → List T → Type 0
  Made p q old new = (p ≤ q) × (new ≡ items_from item (at p) (length old))

  one : (k : ℕ) (xs ys : List T) → Worked k xs ys → Made k (k + 1) xs ys
  one k xs ys is = (omega arith, is)

  both : (p q r : ℕ) (xs xs' ys ys' : List T) → length xs ≡ at q - at p → length ys ≡ at r - at q → Made p q xs xs' → Made q r ys ys' → Made p r (xs ++ ys) (xs' ++ ys')
  both p q r xs xs' ys ys' long long' (a, is) (b, is') =
      let rises = begins_rise share parts count p q fits a in
      let place : at q ≡ at p + length xs = omega (arith, long, rises) in (
        omega (arith, a, b),
        ap (λ zs. zs ++ ys') is ∙ ap (λ zs. items_from item (at p) (length xs) ++ zs) (is' ∙ ap (λ (k : ℕ). items_from item k (length ys)) place)
            ∙ sym (items_both item (at p) (length xs) (length ys)) ∙ ap (λ (n : ℕ). items_from item (at p) n) (sym (length-append xs ys)),
      )

  pub first_at : at 0 ≡ 0
  first_at = let none : 0 * share ≡ 0 = omega arith in begins_early share parts count 0 some ∙ none

  pub end_at : at parts ≡ count
  end_at = begins_late share parts count parts (omega arith)

  pub all_made : (old new : List T) → length old ≡ count → length new ≡ length old → Works Worked at 0 parts old new → new ≡ items_from item 0 count
  all_made old new long same works =
      let n : parts ≡ (parts - 1) + 1 = omega (arith, some) in
      let size : length old ≡ at (0 + ((parts - 1) + 1)) - at 0 = let e : parts ≡ 0 + ((parts - 1) + 1) = omega (arith, some) in omega (arith, long, end_at, first_at, ap at e) in
      let made = whole at Worked Made one both 0 (parts - 1) (λ p q le top. begins_rise share parts count p q fits le) old new size same
      (subst (λ w. Works Worked at 0 w old new) n works) in
      made.1 ∙ ap (λ (k : ℕ). items_from item k (length old)) first_at ∙ ap (λ (k : ℕ). items_from item 0 k) long
