-- Elements of lists and of what is made of them, places, and lists in which no two are the same.
use Rattle.std.proofs.Common.{◌≡◌, ℕ, zero, suc, ◌+◌, ◌<◌, List, [], ◌∷◌, ◌++◌, length, map, Option, Some, None, Bool, true, false, refl, sym, ap, ◌∙◌, subst, inl, inr, ⊎_elim, arith}
use Rattle.std.specs.Prelude.{◌⊎◌, not, slice_get, filter, filter_map, flat_map, find, position, unwrap_or, Contains, cond}
use Rattle.std.specs.List.{position_from, list_any, cons_option, All, AllByRecursion}
use Rattle.std.proofs.lemmas.List.Elements.{recursion_from_All}
use Rattle.std.proofs.lemmas.Bool.{or_cases, or_right, or_left, both_ways}
use Rattle.wl_base.specs.Choice.{distinct_onto, given}
use Rattle.std.proofs.lemmas.Iterator.Adapters.{position_from-zero}
use Rattle.list_places.specs.Has.{Has, Stands, Same, Apart}

-- ---- tests and options

-- by cases of what a test gives
pub by_test : {P : Type 0} (b : Bool) → (b ≡ true → P) → (b ≡ false → P) → P
by_test true f g = f refl
by_test false f g = g refl

pub not_both : (b : Bool) → not b ≡ true → b ≡ true → ⊥
not_both true h k = absurd (grind arith)
not_both false h k = absurd (grind arith)

pub some_is : {A : Type 0} (x y : A) → Some x ≡ Some y → x ≡ y
some_is x y h = grind arith

-- what is given on a condition
pub given_some : {A : Type 0} (t : Bool) (x y : A) → given t x ≡ Some y → (t ≡ true) × (x ≡ y)
given_some true x y h = (refl, grind arith)
given_some false x y h = absurd (grind arith)

-- ---- elements

module _ {X : Type 0} where
  pub has_contains : (xs : List X) (x : X) → Contains xs x → Has xs x
  has_contains [] x h = absurd (omega (arith, h.1))
  has_contains (y ∷ ys) x (zero, l, e) = inl e
  has_contains (y ∷ ys) x (suc k, l, e) = inr (has_contains ys x (k, omega (arith, l), e))

  pub has_left : (xs ys : List X) (x : X) → Has xs x → Has (xs ++ ys) x
  has_left [] ys x h = absurd h
  has_left (z ∷ xs) ys x (inl e) = inl e
  has_left (z ∷ xs) ys x (inr h) = inr (has_left xs ys x h)

  pub has_right : (xs ys : List X) (x : X) → Has ys x → Has (xs ++ ys) x
  has_right [] ys x h = h
  has_right (z ∷ xs) ys x h = inr (has_right xs ys x h)

  -- in one of three
  pub first_of : (xs ys zs : List X) (x : X) → Has xs x → Has (xs ++ ys ++ zs) x
  first_of xs ys zs x h = has_left (xs ++ ys) zs x (has_left xs ys x h)

  pub second_of : (xs ys zs : List X) (x : X) → Has ys x → Has (xs ++ ys ++ zs) x
  second_of xs ys zs x h = has_left (xs ++ ys) zs x (has_right xs ys x h)

  pub third_of : (xs ys zs : List X) (x : X) → Has zs x → Has (xs ++ ys ++ zs) x
  third_of xs ys zs x h = has_right (xs ++ ys) zs x h

  pub has_either : (xs ys : List X) (x : X) → Has (xs ++ ys) x → Has xs x ⊎ Has ys x
  has_either [] ys x h = inr h
  has_either (z ∷ xs) ys x (inl e) = inl (inl e)
  has_either (z ∷ xs) ys x (inr h) = ⊎_elim (λ a. inl (inr a)) (λ b. inr b) (has_either xs ys x h)

  pub has_at : (xs : List X) (k : ℕ) (x : X) → slice_get xs k ≡ Some x → Has xs x
  has_at [] k x h = absurd (grind arith)
  has_at (y ∷ ys) zero x h = inl (grind arith)
  has_at (y ∷ ys) (suc k) x h = inr (has_at ys k x h)

  pub at_has : (xs : List X) (x : X) → Has xs x → (k : ℕ) × (slice_get xs k ≡ Some x)
  at_has [] x h = absurd h
  at_has (y ∷ ys) x (inl e) = (0, ap Some e)
  at_has (y ∷ ys) x (inr h) = let r = at_has ys x h in (suc r.0, r.1)

  -- what passes a filter
  pub filter_has : (p : X → Bool) (xs : List X) (x : X) → Has xs x → p x ≡ true → Has (filter p xs) x
  filter_has p [] x h t = absurd h
  filter_has p (y ∷ ys) x (inl e) t = subst (λ b. Has (cond b (y ∷ filter p ys) (filter p ys)) x) (sym (ap p e ∙ t)) (inl e)
  filter_has p (y ∷ ys) x (inr h) t = onto (p y) (filter_has p ys x h t)
    where
      onto : (b : Bool) → Has (filter p ys) x → Has (cond b (y ∷ filter p ys) (filter p ys)) x
      onto true g = inr g
      onto false g = g

  pub has_filter : (p : X → Bool) (xs : List X) (x : X) → Has (filter p xs) x → Has xs x × (p x ≡ true)
  has_filter p [] x h = absurd h
  has_filter p (y ∷ ys) x h = onto (p y) refl h (λ g. has_filter p ys x g)
    where
      onto : (b : Bool) → p y ≡ b → Has (cond b (y ∷ filter p ys) (filter p ys)) x → (Has (filter p ys) x → Has ys x × (p x ≡ true)) → Has (y ∷ ys) x × (p x ≡ true)
      onto true t (inl e) rest = (inl e, sym (ap p e) ∙ t)
      onto true t (inr g) rest = let r = rest g in (inr r.0, r.1)
      onto false t g rest = let r = rest g in (inr r.0, r.1)

  pub any_has : (p : X → Bool) (xs : List X) (x : X) → Has xs x → p x ≡ true → list_any p xs ≡ true
  any_has p [] x h t = absurd h
  any_has p (y ∷ ys) x (inl e) t = or_left (p y) (list_any p ys) (ap p e ∙ t)
  any_has p (y ∷ ys) x (inr h) t = or_right (p y) (list_any p ys) (any_has p ys x h t)

  pub has_any : (p : X → Bool) (xs : List X) → list_any p xs ≡ true → (x : X) × Has xs x × (p x ≡ true)
  has_any p [] h = absurd (grind arith)
  has_any p (y ∷ ys) h = ⊎_elim (λ t. (y, inl refl, t)) (λ g. let r = has_any p ys g in (r.0, inr r.1, r.2)) (or_cases (p y) (list_any p ys) h)

  -- what is found is there
  pub find_has : (test : X → Bool) (xs : List X) (x : X) → find test xs ≡ Some x → Has xs x × (test x ≡ true)
  find_has test [] x h = absurd (grind arith)
  find_has test (y ∷ ys) x h = onto (test y) refl h (λ g. find_has test ys x g)
    where
      onto : (b : Bool) → test y ≡ b → cond b (Some y) (find test ys) ≡ Some x → (find test ys ≡ Some x → Has ys x × (test x ≡ true)) → Has (y ∷ ys) x × (test x ≡ true)
      onto true t e rest = let q : y ≡ x = some_is y x e in (inl q, sym (ap test q) ∙ t)
      onto false t e rest = let r = rest e in (inr r.0, r.1)

  -- what holds of each
  by_recursion : (P : X → Type 0) (xs : List X) → AllByRecursion P xs → (x : X) → Has xs x → P x
  by_recursion P [] h x m = absurd m
  by_recursion P (y ∷ ys) h x (inl e) = subst P e h.0
  by_recursion P (y ∷ ys) h x (inr m) = by_recursion P ys h.1 x m

  pub all_has : (P : X → Type 0) (xs : List X) → All P xs → (x : X) → Has xs x → P x
  all_has P xs h x m = by_recursion P xs (recursion_from_All P xs h) x m

  -- ---- places

  -- a place with an item is one of the list's
  pub below : (xs : List X) (k : ℕ) (x : X) → slice_get xs k ≡ Some x → k < length xs
  below [] k x h = absurd (grind arith)
  below (y ∷ ys) zero x h = omega arith
  below (y ∷ ys) (suc k) x h = let l : k < length ys = below ys k x h in omega (arith, l)

  stands_from : (p : X → Bool) (at k : ℕ) (xs : List X) → position_from p at xs ≡ Some k → (j : ℕ) × (k ≡ at + j) × Stands p xs j
  stands_from p at k [] h = absurd (grind arith)
  stands_from p at k (x ∷ xs) h = onto (p x) refl h (λ e. stands_from p (at + 1) k xs e)
    where
      onto : (b : Bool) → p x ≡ b → cond b (Some at) (position_from p (at + 1) xs) ≡ Some k
          → (position_from p (at + 1) xs ≡ Some k → (j : ℕ) × (k ≡ at + 1 + j) × Stands p xs j) → (j : ℕ) × (k ≡ at + j) × Stands p (x ∷ xs) j
      onto true t e rest = (0, grind arith, record { item = x; there = refl; passes = t })
      onto false t e rest =
          let r = rest e in
          let s = r.2 in
          (suc r.0, omega (arith, r.1), record { item = s.item; there = s.there; passes = s.passes })

  from_stands : (p : X → Bool) (at : ℕ) (xs : List X) (x : X) → Has xs x → p x ≡ true → (k : ℕ) × (position_from p at xs ≡ Some k)
  from_stands p at [] x h t = absurd h
  from_stands p at (y ∷ ys) x (inl e) t = (at, ap (λ b. cond b (Some at) (position_from p (at + 1) ys)) (ap p e ∙ t))
  from_stands p at (y ∷ ys) x (inr h) t = onto (p y) (from_stands p (at + 1) ys x h t)
    where
      onto : (b : Bool) → (k : ℕ) × (position_from p (at + 1) ys ≡ Some k) → (k : ℕ) × (cond b (Some at) (position_from p (at + 1) ys) ≡ Some k)
      onto true r = (at, refl)
      onto false r = r

  from_agree : (p q : X → Bool) → ((x : X) → p x ≡ q x) → (at : ℕ) (xs : List X) → position_from p at xs ≡ position_from q at xs
  from_agree p q e at [] = refl
  from_agree p q e at (x ∷ xs) =
      ap (λ b. cond b (Some at) (position_from p (at + 1) xs)) (e x)
      ∙ ap (λ o. cond (q x) (Some at) o) (from_agree p q e (at + 1) xs)

  -- what stands at a place that was found
  pub stands : (p : X → Bool) (xs : List X) (k : ℕ) → position p xs ≡ Some k → Stands p xs k
  stands p xs k h =
      let r = stands_from p 0 k xs (sym (position_from-zero p xs) ∙ h) in
      let e : r.0 ≡ k = omega (arith, r.1) in
      subst (λ j. Stands p xs j) e r.2

  -- a place that was found, or 0, is less than a number that the length is less than
  pub position_below : (test : X → Bool) (xs : List X) (o : Option ℕ) → position test xs ≡ o → (m : ℕ) → length xs < m → unwrap_or o 0 < m
  position_below test xs None e m h = omega (arith, h)
  position_below test xs (Some k) e m h = let s = stands test xs k e in let l : k < length xs = below xs k s.item s.there in omega (arith, l, h)

  -- an element that passes has a place
  pub placed : (p : X → Bool) (xs : List X) (x : X) → Has xs x → p x ≡ true → (k : ℕ) × (position p xs ≡ Some k)
  placed p xs x h t = let r = from_stands p 0 xs x h t in (r.0, position_from-zero p xs ∙ r.1)

  pub place_agree : (p q : X → Bool) → ((x : X) → p x ≡ q x) → (xs : List X) → position p xs ≡ position q xs
  place_agree p q e xs = position_from-zero p xs ∙ from_agree p q e 0 xs ∙ sym (position_from-zero q xs)

  -- what the place where a key stands has is the same as the key, and has the same places everywhere
  module _ (same : X → X → Bool) (s : Same same) where
    pub turned : (x y : X) → same x y ≡ true → same y x ≡ true
    turned x y h = sym (s.carries x y h x) ∙ s.itself x

    pub same_place : (x y : X) (xs : List X) → same x y ≡ true → position (same x) xs ≡ position (same y) xs
    same_place x y xs h = place_agree (same x) (same y) (s.carries x y h) xs

    -- two keys with one place are the same
    pub one_place : (x y : X) (xs : List X) (k : ℕ) → position (same x) xs ≡ Some k → position (same y) xs ≡ Some k → same x y ≡ true
    one_place x y xs k h g =
        let a = stands (same x) xs k h in
        let b = stands (same y) xs k g in
        let e : a.item ≡ b.item = grind (arith, a.there, b.there) in
        s.carries x a.item a.passes y ∙ turned y a.item (ap (same y) e ∙ b.passes)

-- ---- maps

module _ {X Y : Type 0} where
  pub map_has : (f : X → Y) (xs : List X) (x : X) → Has xs x → Has (map f xs) (f x)
  map_has f [] x h = absurd h
  map_has f (y ∷ ys) x (inl e) = inl (ap f e)
  map_has f (y ∷ ys) x (inr h) = inr (map_has f ys x h)

  pub has_map : (f : X → Y) (xs : List X) (y : Y) → Has (map f xs) y → (x : X) × Has xs x × (f x ≡ y)
  has_map f [] y h = absurd h
  has_map f (x ∷ xs) y (inl e) = (x, inl refl, e)
  has_map f (x ∷ xs) y (inr h) = let r = has_map f xs y h in (r.0, inr r.1, r.2)

  pub pick_has : (f : X → Option Y) (xs : List X) (x : X) (y : Y) → Has xs x → f x ≡ Some y → Has (filter_map f xs) y
  pick_has f [] x y h e = absurd h
  pick_has f (z ∷ zs) x y (inl a) e = first (f z) (ap f a ∙ e)
    where
      first : (o : Option Y) → o ≡ Some y → Has (cons_option o (filter_map f zs)) y
      first None h = absurd (grind arith)
      first (Some u) h = inl (grind arith)
  pick_has f (z ∷ zs) x y (inr h) e = onto (f z) (pick_has f zs x y h e)
    where
      onto : (o : Option Y) → Has (filter_map f zs) y → Has (cons_option o (filter_map f zs)) y
      onto None g = g
      onto (Some u) g = inr g

  pub has_pick : (f : X → Option Y) (xs : List X) (y : Y) → Has (filter_map f xs) y → (x : X) × Has xs x × (f x ≡ Some y)
  has_pick f [] y h = absurd h
  has_pick f (x ∷ xs) y h = onto (f x) refl h (λ g. has_pick f xs y g)
    where
      onto : (o : Option Y) → f x ≡ o → Has (cons_option o (filter_map f xs)) y → (Has (filter_map f xs) y → (z : X) × Has xs z × (f z ≡ Some y)) → (z : X) × Has (x ∷ xs) z × (f z ≡ Some y)
      onto None t g rest = let r = rest g in (r.0, inr r.1, r.2)
      onto (Some u) t (inl a) rest = (x, inl refl, t ∙ ap Some a)
      onto (Some u) t (inr g) rest = let r = rest g in (r.0, inr r.1, r.2)

  pub flat_has : (f : X → List Y) (xs : List X) (x : X) (y : Y) → Has xs x → Has (f x) y → Has (flat_map f xs) y
  flat_has f [] x y h g = absurd h
  flat_has f (z ∷ zs) x y (inl e) g = has_left (f z) (flat_map f zs) y (subst (λ w. Has (f w) y) (sym e) g)
  flat_has f (z ∷ zs) x y (inr h) g = has_right (f z) (flat_map f zs) y (flat_has f zs x y h g)

  pub has_flat : (f : X → List Y) (xs : List X) (y : Y) → Has (flat_map f xs) y → (x : X) × Has xs x × Has (f x) y
  has_flat f [] y h = absurd h
  has_flat f (x ∷ xs) y h =
      ⊎_elim (λ a. (x, inl refl, a)) (λ b. let r = has_flat f xs y b in (r.0, inr r.1, r.2)) (has_either (f x) (flat_map f xs) y h)

-- ---- lists without repeats

module _ {X : Type 0} (same : X → X → Bool) where
  pub apart_append : (xs ys : List X) → Apart same xs → Apart same ys → ((x y : X) → Has xs x → Has ys y → same x y ≡ true → ⊥) → Apart same (xs ++ ys)
  apart_append [] ys a b c = b
  apart_append (x ∷ xs) ys a b c =
      (λ y h. ⊎_elim (λ k. a.0 y k) (λ k. c x y (inl refl) k) (has_either xs ys y h), apart_append xs ys a.1 b (λ u v h k. c u v (inr h) k))

  pub apart_filter : (p : X → Bool) (xs : List X) → Apart same xs → Apart same (filter p xs)
  apart_filter p [] a = tt
  apart_filter p (x ∷ xs) a = onto (p x) (apart_filter p xs a.1) (λ y h. a.0 y (has_filter p xs y h).0)
    where
      onto : (b : Bool) → Apart same (filter p xs) → ((y : X) → Has (filter p xs) y → same x y ≡ true → ⊥) → Apart same (cond b (x ∷ filter p xs) (filter p xs))
      onto true r f = (f, r)
      onto false r f = r

  -- one place for each
  pub apart_place : ((x y : X) → same x y ≡ true → same y x ≡ true) → (xs : List X) → Apart same xs → (i j : ℕ) (x y : X)
      → slice_get xs i ≡ Some x → slice_get xs j ≡ Some y → same x y ≡ true → i ≡ j
  apart_place t [] a i j x y h k e = absurd (grind arith)
  apart_place t (z ∷ zs) a zero zero x y h k e = refl
  apart_place t (z ∷ zs) a zero (suc j) x y h k e = absurd (a.0 y (has_at zs j y k) (subst (λ w. same w y ≡ true) (sym (some_is z x h)) e))
  apart_place t (z ∷ zs) a (suc i) zero x y h k e = absurd (a.0 x (has_at zs i x h) (subst (λ w. same w x ≡ true) (sym (some_is z y k)) (t x y e)))
  apart_place t (z ∷ zs) a (suc i) (suc j) x y h k e = ap suc (apart_place t zs a.1 i j x y h k e)

  -- a list that keeps the first of each
  pub apart_distinct : ((x y : X) → same x y ≡ true → same y x ≡ true) → (seen xs : List X) → Apart same seen → Apart same (distinct_onto same seen xs)
  apart_distinct t seen [] a = a
  apart_distinct t seen (z ∷ zs) a = apart_distinct t (cond (list_any (same z) seen) seen (seen ++ z ∷ [])) zs (onto (list_any (same z) seen) refl)
    where
      onto : (b : Bool) → list_any (same z) seen ≡ b → Apart same (cond b seen (seen ++ z ∷ []))
      onto true e = a
      onto false e =
          apart_append seen (z ∷ []) a ((λ y h k. h), tt)
          (λ x y h k s. ⊎_elim
          (λ q. let m = any_has (same z) seen x h (t x z (subst (λ w. same x w ≡ true) (sym q) s)) in both_ways (list_any (same z) seen) e m)
          (λ q. q) k)

  pub distinct_only : (seen xs : List X) (x : X) → Has (distinct_onto same seen xs) x → Has seen x ⊎ Has xs x
  distinct_only seen [] x h = inl h
  distinct_only seen (z ∷ zs) x h =
      ⊎_elim (onto (list_any (same z) seen)) (λ k. inr (inr k)) (distinct_only (cond (list_any (same z) seen) seen (seen ++ z ∷ [])) zs x h)
    where
      onto : (b : Bool) → Has (cond b seen (seen ++ z ∷ [])) x → Has seen x ⊎ Has (z ∷ zs) x
      onto true h = inl h
      onto false h = ⊎_elim (λ k. inl k) (λ k. ⊎_elim (λ e. inr (inl e)) (λ n. absurd n) k) (has_either seen (z ∷ []) x h)

module _ {X Y : Type 0} (same : X → X → Bool) (alike : Y → Y → Bool) where
  pub apart_map : (f : X → Y) → ((x y : X) → alike (f x) (f y) ≡ true → same x y ≡ true) → (xs : List X) → Apart same xs → Apart alike (map f xs)
  apart_map f t [] a = tt
  apart_map f t (x ∷ xs) a =
      (λ y h s. let r = has_map f xs y h in a.0 r.0 r.1 (t x r.0 (subst (λ w. alike (f x) w ≡ true) (sym r.2) s)), apart_map f t xs a.1)

  pub apart_pick : (f : X → Option Y) → ((x y : X) (u v : Y) → f x ≡ Some u → f y ≡ Some v → alike u v ≡ true → same x y ≡ true) → (xs : List X) → Apart same xs → Apart alike (filter_map f xs)
  apart_pick f t [] a = tt
  apart_pick f t (x ∷ xs) a = onto (f x) refl (apart_pick f t xs a.1) (λ u e v h s. let r = has_pick f xs v h in a.0 r.0 r.1 (t x r.0 u v e r.2 s))
    where
      onto : (o : Option Y) → f x ≡ o → Apart alike (filter_map f xs) → ((u : Y) → f x ≡ Some u → (v : Y) → Has (filter_map f xs) v → alike u v ≡ true → ⊥) → Apart alike (cons_option o (filter_map f xs))
      onto None e r g = r
      onto (Some u) e r g = (g u e, r)
