-- Lists by their places, and faults that are none.
use Rattle.std.proofs.Common.{◌≡◌, ℕ, zero, suc, ◌<◌, List, [], ◌∷◌, length, map, Option, Some, None, Bool, true, false, refl, sym, ap, ◌∙◌, subst, inl, inr, arith}
use Rattle.std.specs.Prelude.{slice_get, slice_index_or, position, option_map, cond, find, filter}
use Rattle.std.specs.List.{AllZip}
use Rattle.list_places.specs.Has.{Has, Apart}
use Rattle.list_places.proofs.Lists.{has_at, placed, stands, apart_place}

-- lists with the same items at all places
pub same_list : {A : Type 0} (xs ys : List A) → ((k : ℕ) → slice_get xs k ≡ slice_get ys k) → xs ≡ ys
same_list [] [] h = refl
same_list [] (y ∷ ys) h = absurd (let e = h 0 in grind arith)
same_list (x ∷ xs) [] h = absurd (let e = h 0 in grind arith)
same_list (x ∷ xs) (y ∷ ys) h = let e : x ≡ y = some_is (h 0) in ap (λ z. z ∷ xs) e ∙ ap (λ zs. y ∷ zs) (same_list xs ys (λ k. h (suc k)))
  where
    some_is : Some x ≡ Some y → x ≡ y
    some_is e = grind arith

-- what stands at the same place of two lists that are related item by item
pub zipped : {A B : Type 0} (R : A → B → Type 0) (xs : List A) (ys : List B) (k : ℕ) (x : A) → AllZip R xs ys → slice_get xs k ≡ Some x → (y : B) × (slice_get ys k ≡ Some y) × R x y
zipped R [] ys k x z h = absurd (grind arith)
zipped R (a ∷ xs) [] k x z h = absurd z
zipped R (a ∷ xs) (b ∷ ys) zero x z h = let e : a ≡ x = grind arith in (b, refl, subst (λ y. R y b) e z.0)
zipped R (a ∷ xs) (b ∷ ys) (suc k) x z h = zipped R xs ys k x z.1 h

pub zip_long : {A B : Type 0} (R : A → B → Type 0) (xs : List A) (ys : List B) → AllZip R xs ys → length xs ≡ length ys
zip_long R [] [] z = refl
zip_long R [] (y ∷ ys) z = absurd z
zip_long R (x ∷ xs) [] z = absurd z
zip_long R (x ∷ xs) (y ∷ ys) z = ap suc (zip_long R xs ys z.1)

-- the place of an item, where no two are the same
pub own_place : {X : Type 0} (same : X → X → Bool) → ((x : X) → same x x ≡ true) → ((x y : X) → same x y ≡ true → same y x ≡ true) → (xs : List X) → Apart same xs → (k : ℕ) (x : X) → slice_get xs k ≡ Some x
    → position (same x) xs ≡ Some k
own_place same itself turned xs a k x h =
    let m = placed (same x) xs x (has_at xs k x h) (itself x) in
    let s = stands (same x) xs m.0 m.1 in
    let e : k ≡ m.0 = apart_place same turned xs a k m.0 x s.item h s.there s.passes in
    m.1 ∙ ap Some (sym e)

pub found_none : {A : Type 0} (test : A → Bool) (xs : List A) (x : A) → find test xs ≡ None → Has xs x → test x ≡ false
found_none test [] x n h = absurd h
found_none test (y ∷ ys) x n h = onto (test y) refl n h (λ m g. found_none test ys x m g)
  where
    onto : (b : Bool) → test y ≡ b → cond b (Some y) (find test ys) ≡ None → Has (y ∷ ys) x → (find test ys ≡ None → Has ys x → test x ≡ false) → test x ≡ false
    onto true t n h again = absurd (grind arith)
    onto false t n (inl e) again = sym (ap test e) ∙ t
    onto false t n (inr g) again = again n g

pub mapped_none : {A B : Type 0} (f : A → B) (o : Option A) → option_map f o ≡ None → o ≡ None
mapped_none f None h = refl
mapped_none f (Some x) h = absurd (grind arith)

-- an item of a list of small numbers
pub small_at : (m : ℕ) (xs : List ℕ) (k : ℕ) → 0 < m → ((x : ℕ) → Has xs x → x < m) → slice_index_or xs k 0 < m
small_at m [] k z h = z
small_at m (x ∷ xs) zero z h = h x (inl refl)
small_at m (x ∷ xs) (suc k) z h = small_at m xs k z (λ y g. h y (inr g))

pub filter_map_is : {A B : Type 0} (f : A → B) (test : B → Bool) (xs : List A) → filter test (map f xs) ≡ map f (filter (λ x. test (f x)) xs)
filter_map_is f test [] = refl
filter_map_is f test (x ∷ xs) = onto (test (f x)) (filter_map_is f test xs)
  where
    onto : (b : Bool) → filter test (map f xs) ≡ map f (filter (λ x. test (f x)) xs) → cond b (f x ∷ filter test (map f xs)) (filter test (map f xs)) ≡ map f (cond b (x ∷ filter (λ x. test (f x)) xs) (filter (λ x. test (f x)) xs))
    onto true e = ap (λ ys. f x ∷ ys) e
    onto false e = e
