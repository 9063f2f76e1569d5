-- Places of items in lists, and numbers by places.
use Rattle.std.proofs.Common.{◌≡◌, ℕ, zero, suc, ◌+◌, ◌<◌, ◌≤◌, List, [], ◌∷◌, ◌++◌, length, map, Option, Some, None, Bool, true, false, refl, sym, ap, ◌∙◌, subst, inl, inr, arith}
use Rattle.std.specs.Prelude.{slice_get, position, option_map, cond, filter_map, unwrap_or}
use Rattle.std.specs.List.{AllZip, AllByRecursion, All, position_from, cons_option}
use Rattle.std.proofs.lemmas.List.Elements.{All-from_recursion}
use Rattle.std.proofs.lemmas.Iterator.Adapters.{position_from-zero}
use Rattle.list_places.specs.Has.{Has, Apart}
use Rattle.list_places.proofs.Lists.{has_at, at_has, some_is, placed, stands, below, apart_place}
use Rattle.wl_base.specs.Choice.{given, first_some}

-- ---- faults that are none

pub mapped_none : {A B : Type 0} (f : A → B) (o : Option A) → option_map f o ≡ None → o ≡ None
mapped_none f None h = refl
mapped_none f (Some x) h = absurd (grind arith)

pub given_none : {A : Type 0} (b : Bool) (x : A) → given b x ≡ None → b ≡ false
given_none true x h = absurd (grind arith)
given_none false x h = refl

pub first_none : {A : Type 0} (a : Option A) (os : List (Option A)) → first_some (a ∷ os) ≡ None → a ≡ None
first_none None os h = refl
first_none (Some x) os h = absurd (grind arith)

-- ---- all of a list

pub all_by_recursion : {A : Type 0} (P : A → Type 0) (xs : List A) → ((x : A) → Has xs x → P x) → AllByRecursion P xs
all_by_recursion P [] h = tt
all_by_recursion P (x ∷ xs) h = (h x (inl refl), all_by_recursion P xs (λ y g. h y (inr g)))

pub all_from_has : {A : Type 0} (P : A → Type 0) (xs : List A) → ((x : A) → Has xs x → P x) → All P xs
all_from_has P xs h = All-from_recursion P xs (all_by_recursion P xs h)

-- what stands at the same place of two lists that are related item by item
pub zipped : {A B : Type 0} (R : A → B → Type 0) (xs : List A) (ys : List B) (k : ℕ) (x : A) → AllZip R xs ys → slice_get xs k ≡ Some x → (y : B) × (slice_get ys k ≡ Some y) × R x y
zipped R [] ys k x z h = absurd (grind arith)
zipped R (a ∷ xs) [] k x z h = absurd z
zipped R (a ∷ xs) (b ∷ ys) zero x z h = let e : a ≡ x = grind arith in (b, refl, subst (λ y. R y b) e z.0)
zipped R (a ∷ xs) (b ∷ ys) (suc k) x z h = zipped R xs ys k x z.1 h

-- ---- places

module _ {X : Type 0} where
  -- the place of an item, where no two are the same
  pub own_place : (same : X → X → Bool) → ((x : X) → same x x ≡ true) → ((x y : X) → same x y ≡ true → same y x ≡ true) → (xs : List X) → Apart same xs → (k : ℕ) (x : X) → slice_get xs k ≡ Some x
      → position (same x) xs ≡ Some k
  own_place same itself turned xs a k x h =
      let m = placed (same x) xs x (has_at xs k x h) (itself x) in
      let s = stands (same x) xs m.0 m.1 in
      let e : k ≡ m.0 = apart_place same turned xs a k m.0 x s.item h s.there s.passes in
      m.1 ∙ ap Some (sym e)

  -- two of them that are the same are one
  pub one_item : (same : X → X → Bool) → ((x y : X) → same x y ≡ true → same y x ≡ true) → (xs : List X) → Apart same xs → (x y : X) → Has xs x → Has xs y → same x y ≡ true → x ≡ y
  one_item same turned xs a x y hx hy e =
      let i = at_has xs x hx in
      let j = at_has xs y hy in
      let n : i.0 ≡ j.0 = apart_place same turned xs a i.0 j.0 x y i.1 j.1 e in
      some_is x y (sym i.1 ∙ ap (slice_get xs) n ∙ j.1)

  from_later : (p : X → Bool) (at by : ℕ) (xs : List X) → position_from p (at + by) xs ≡ option_map (λ k. by + k) (position_from p at xs)
  from_later p at by [] = refl
  from_later p at by (x ∷ xs) = onto (p x) (let z : at + by + 1 ≡ at + 1 + by = omega arith in ap (λ n. position_from p n xs) z ∙ from_later p (at + 1) by xs)
    where
      onto : (b : Bool) → position_from p (at + by + 1) xs ≡ option_map (λ k. by + k) (position_from p (at + 1) xs)
          → cond b (Some (at + by)) (position_from p (at + by + 1) xs) ≡ option_map (λ k. by + k) (cond b (Some at) (position_from p (at + 1) xs))
      onto true e = let z : at + by ≡ by + at = omega arith in ap Some z
      onto false e = e

  -- behind items that don't pass
  from_behind : (p : X → Bool) (at : ℕ) (xs ys : List X) → ((x : X) → Has xs x → p x ≡ false) → position_from p at (xs ++ ys) ≡ position_from p (at + length xs) ys
  from_behind p at [] ys h = let z : at ≡ at + 0 = omega arith in ap (λ n. position_from p n ys) z
  from_behind p at (x ∷ xs) ys h =
      let z : at + 1 + length xs ≡ at + suc (length xs) = omega arith in
      ap (λ b. cond b (Some at) (position_from p (at + 1) (xs ++ ys))) (h x (inl refl)) ∙ from_behind p (at + 1) xs ys (λ y g. h y (inr g)) ∙ ap (λ n. position_from p n ys) z

  pub place_behind : (p : X → Bool) (xs ys : List X) (k : ℕ) → ((x : X) → Has xs x → p x ≡ false) → position p ys ≡ Some k → position p (xs ++ ys) ≡ Some (length xs + k)
  place_behind p xs ys k h e =
      position_from-zero p (xs ++ ys) ∙ from_behind p 0 xs ys h ∙ from_later p 0 (length xs) ys ∙ ap (option_map (λ k. length xs + k)) (sym (position_from-zero p ys) ∙ e)

  -- before others
  from_front : (p : X → Bool) (at : ℕ) (xs ys : List X) (k : ℕ) → position_from p at xs ≡ Some k → position_from p at (xs ++ ys) ≡ Some k
  from_front p at [] ys k e = absurd (grind arith)
  from_front p at (x ∷ xs) ys k e = onto (p x) e (from_front p (at + 1) xs ys k)
    where
      onto : (b : Bool) → cond b (Some at) (position_from p (at + 1) xs) ≡ Some k → (position_from p (at + 1) xs ≡ Some k → position_from p (at + 1) (xs ++ ys) ≡ Some k)
          → cond b (Some at) (position_from p (at + 1) (xs ++ ys)) ≡ Some k
      onto true e again = e
      onto false e again = again e

  pub place_front : (p : X → Bool) (xs ys : List X) (k : ℕ) → position p xs ≡ Some k → position p (xs ++ ys) ≡ Some k
  place_front p xs ys k e = position_from-zero p (xs ++ ys) ∙ from_front p 0 xs ys k (sym (position_from-zero p xs) ∙ e)

  -- what no later item passes stands in front
  from_within : (p : X → Bool) (at : ℕ) (xs ys : List X) (k : ℕ) → ((x : X) → Has ys x → p x ≡ false) → position_from p at (xs ++ ys) ≡ Some k → k < at + length xs
  from_within p at [] ys k h e =
      let z : 0 + at ≡ at = omega arith in
      let m = sym (from_later p 0 at ys) ∙ ap (λ n. position_from p n ys) z ∙ e in
      absurd (by (position_from p 0 ys) refl m)
    where
      no : (x : X) → p x ≡ false → p x ≡ true → ⊥
      no x a b = let z : false ≡ true = sym a ∙ b in absurd (grind arith)

      by : (o : Option ℕ) → position_from p 0 ys ≡ o → option_map (λ k. at + k) o ≡ Some k → ⊥
      by None q m = absurd (grind arith)
      by (Some j) q m = let s = stands p ys j (position_from-zero p ys ∙ q) in no s.item (h s.item (has_at ys j s.item s.there)) s.passes
  from_within p at (x ∷ xs) ys k h e = onto (p x) e (λ q. from_within p (at + 1) xs ys k h q)
    where
      onto : (b : Bool) → cond b (Some at) (position_from p (at + 1) (xs ++ ys)) ≡ Some k → (position_from p (at + 1) (xs ++ ys) ≡ Some k → k < at + 1 + length xs) → k < at + suc (length xs)
      onto true e again = let z : at ≡ k = grind arith in omega (arith, z)
      onto false e again = let l = again e in omega (arith, l)

  -- a number, or 0, is one of the first
  pub number_within : (p : X → Bool) (xs ys : List X) → 0 < length xs → ((x : X) → Has ys x → p x ≡ false) → unwrap_or (position p (xs ++ ys)) 0 < length xs
  number_within p xs ys some h = by (position p (xs ++ ys)) refl
    where
      by : (o : Option ℕ) → position p (xs ++ ys) ≡ o → unwrap_or o 0 < length xs
      by None e = some
      by (Some k) e = let l : k < 0 + length xs = from_within p 0 xs ys k h (sym (position_from-zero p (xs ++ ys)) ∙ e) in omega (arith, l)

  -- a number is at most how many there are
  pub number_low : (p : X → Bool) (xs : List X) → unwrap_or (position p xs) 0 ≤ length xs
  number_low p xs = by (position p xs) refl
    where
      by : (o : Option ℕ) → position p xs ≡ o → unwrap_or o 0 ≤ length xs
      by None e = omega arith
      by (Some k) e = let s = stands p xs k e in let l : k < length xs = below xs k s.item s.there in omega (arith, l)

  pub number_below : (p : X → Bool) (xs : List X) → 0 < length xs → unwrap_or (position p xs) 0 < length xs
  number_below p xs some = by (position p xs) refl
    where
      by : (o : Option ℕ) → position p xs ≡ o → unwrap_or o 0 < length xs
      by None e = some
      by (Some k) e = let s = stands p xs k e in below xs k s.item s.there

-- of what is made of items, by a test that looks at the item
pub from_map : {A B : Type 0} (f : A → B) (p : B → Bool) (at : ℕ) (xs : List A) → position_from p at (map f xs) ≡ position_from (λ x. p (f x)) at xs
from_map f p at [] = refl
from_map f p at (x ∷ xs) = ap (λ o. cond (p (f x)) (Some at) o) (from_map f p (at + 1) xs)

pub place_map : {A B : Type 0} (f : A → B) (p : B → Bool) (xs : List A) → position p (map f xs) ≡ position (λ x. p (f x)) xs
place_map f p xs = position_from-zero p (map f xs) ∙ from_map f p 0 xs ∙ sym (position_from-zero (λ x. p (f x)) xs)

-- ---- picks

pub pick_append : {A B : Type 0} (f : A → Option B) (xs ys : List A) → filter_map f (xs ++ ys) ≡ filter_map f xs ++ filter_map f ys
pick_append f [] ys = refl
pick_append {A} {B} f (x ∷ xs) ys = by (f x) (pick_append f xs ys)
  where
    by : (o : Option B) → filter_map f (xs ++ ys) ≡ filter_map f xs ++ filter_map f ys → cons_option o (filter_map f (xs ++ ys)) ≡ cons_option o (filter_map f xs) ++ filter_map f ys
    by None e = e
    by (Some b) e = ap (λ r. b ∷ r) e

-- nothing is picked of what gives none
pub picks_none : {A B : Type 0} (f : A → Option B) (xs : List A) → ((x : A) → Has xs x → f x ≡ None) → filter_map f xs ≡ []
picks_none f [] h = refl
picks_none f (x ∷ xs) h = ap (λ o. cons_option o (filter_map f xs)) (h x (inl refl)) ∙ picks_none f xs (λ y g. h y (inr g))

pub picks_all : {A B C : Type 0} (f : B → Option C) (g : A → B) (h : A → C) → ((x : A) → f (g x) ≡ Some (h x)) → (xs : List A) → filter_map f (map g xs) ≡ map h xs
picks_all f g h e [] = refl
picks_all f g h e (x ∷ xs) = ap (λ o. cons_option o (filter_map f (map g xs))) (e x) ∙ ap (λ ys. h x ∷ ys) (picks_all f g h e xs)
