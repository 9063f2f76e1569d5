-- Lists that go side by side.
use Rattle.std.proofs.Common.{◌≡◌, ℕ, zero, suc, ◌+◌, ◌≤◌, Bool, true, false, ◌&&◌, cond, List, [], ◌∷◌, ◌++◌, map, filter, length, inl, inr, refl, sym, ap, ◌∙◌, subst, arith}
use Rattle.std.specs.Prelude.{Option, Some, None, slice_get, filter_map, flat_map}
use Rattle.std.specs.List.{AllZip, cons_option}
use Rattle.std.proofs.lemmas.List.Concat.{flat_map-cons}
use Rattle.std.proofs.lemmas.List.Elements.{filter-append}
use Rattle.list_places.specs.Has.{Has, Apart}
use Rattle.list_places.proofs.Lists.{has_filter, has_at}
use Rattle.link_rules.specs.Program.{indexed}

-- ---- two lists

pub zip_more : {A B : Type 0} (R Q : A → B → Type 0) → ((x : A) (y : B) → R x y → Q x y) → (xs : List A) (ys : List B) → AllZip R xs ys → AllZip Q xs ys
zip_more R Q more [] [] z = tt
zip_more R Q more [] (y ∷ ys) z = absurd z
zip_more R Q more (x ∷ xs) [] z = absurd z
zip_more R Q more (x ∷ xs) (y ∷ ys) z = (more x y z.0, zip_more R Q more xs ys z.1)

pub zip_append : {A B : Type 0} (R : A → B → Type 0) (as' xs : List A) (bs ys : List B) → AllZip R as' bs → AllZip R xs ys → AllZip R (as' ++ xs) (bs ++ ys)
zip_append R [] xs [] ys z w = w
zip_append R [] xs (b ∷ bs) ys z w = absurd z
zip_append R (a ∷ as') xs [] ys z w = absurd z
zip_append R (a ∷ as') xs (b ∷ bs) ys z w = (z.0, zip_append R as' xs bs ys z.1 w)

pub zip_filter : {A B : Type 0} (R : A → B → Type 0) (t : A → Bool) (u : B → Bool) → ((x : A) (y : B) → R x y → u y ≡ t x) → (xs : List A) (ys : List B) → AllZip R xs ys → AllZip R (filter t xs) (filter u ys)
zip_filter R t u same [] [] z = tt
zip_filter R t u same [] (y ∷ ys) z = absurd z
zip_filter R t u same (x ∷ xs) [] z = absurd z
zip_filter R t u same (x ∷ xs) (y ∷ ys) z = rw (same x y z.0) (by_test (t x) (zip_filter R t u same xs ys z.1))
  where
    by_test : (r : Bool) → AllZip R (filter t xs) (filter u ys) → AllZip R (cond r (x ∷ filter t xs) (filter t xs)) (cond r (y ∷ filter u ys) (filter u ys))
    by_test true rest = (z.0, rest)
    by_test false rest = rest

pub zip_chain : {A B C : Type 0} (R : A → B → Type 0) (S : B → C → Type 0) (T : A → C → Type 0) → ((x : A) (y : B) (z : C) → R x y → S y z → T x z)
    → (xs : List A) (ys : List B) (zs : List C) → AllZip R xs ys → AllZip S ys zs → AllZip T xs zs
zip_chain R S T both [] [] [] r s = tt
zip_chain R S T both [] [] (z ∷ zs) r s = absurd s
zip_chain R S T both [] (y ∷ ys) zs r s = absurd r
zip_chain R S T both (x ∷ xs) [] zs r s = absurd r
zip_chain R S T both (x ∷ xs) (y ∷ ys) [] r s = absurd s
zip_chain R S T both (x ∷ xs) (y ∷ ys) (z ∷ zs) r s = (both x y z r.0 s.0, zip_chain R S T both xs ys zs r.1 s.1)

-- what holds of the elements of the first too
pub zip_has : {A B : Type 0} (R Q : A → B → Type 0) (xs : List A) (ys : List B) → ((x : A) (y : B) → Has xs x → Has ys y → R x y → Q x y) → AllZip R xs ys → AllZip Q xs ys
zip_has R Q [] [] more z = tt
zip_has R Q [] (y ∷ ys) more z = absurd z
zip_has R Q (x ∷ xs) [] more z = absurd z
zip_has R Q (x ∷ xs) (y ∷ ys) more z = (more x y (inl refl) (inl refl) z.0, zip_has R Q xs ys (λ a b ha hb. more a b (inr ha) (inr hb)) z.1)

pub zip_map : {A B C : Type 0} (R : A → B → Type 0) (f : A → C) (g : B → C) → ((x : A) (y : B) → R x y → g y ≡ f x) → (xs : List A) (ys : List B) → AllZip R xs ys → map g ys ≡ map f xs
zip_map R f g same [] [] z = refl
zip_map R f g same [] (y ∷ ys) z = absurd z
zip_map R f g same (x ∷ xs) [] z = absurd z
zip_map R f g same (x ∷ xs) (y ∷ ys) z = rw (same x y z.0, zip_map R f g same xs ys z.1) refl

pub zip_length : {A B : Type 0} (R : A → B → Type 0) (xs : List A) (ys : List B) → AllZip R xs ys → length ys ≡ length xs
zip_length R [] [] z = refl
zip_length R [] (y ∷ ys) z = absurd z
zip_length R (x ∷ xs) [] z = absurd z
zip_length R (x ∷ xs) (y ∷ ys) z = ap suc (zip_length R xs ys z.1)

-- lists that are made of one
pub zip_each : {A B C : Type 0} (R : B → C → Type 0) (f : A → B) (g : A → C) (xs : List A) → ((x : A) → Has xs x → R (f x) (g x)) → AllZip R (map f xs) (map g xs)
zip_each R f g [] each = tt
zip_each R f g (x ∷ xs) each = (each x (inl refl), zip_each R f g xs (λ y h. each y (inr h)))

pub zip_flat : {A B C : Type 0} (R : B → C → Type 0) (f : A → List B) (g : A → List C) (xs : List A) → ((x : A) → Has xs x → AllZip R (f x) (g x)) → AllZip R (flat_map f xs) (flat_map g xs)
zip_flat R f g [] each = tt
zip_flat R f g (x ∷ xs) each =
    subst (λ bs. AllZip R bs (flat_map g (x ∷ xs))) (sym (flat_map-cons f x xs))
    (subst (λ cs. AllZip R (f x ++ flat_map f xs) cs) (sym (flat_map-cons g x xs))
    (zip_append R (f x) (flat_map f xs) (g x) (flat_map g xs) (each x (inl refl)) (zip_flat R f g xs (λ y h. each y (inr h)))))

-- ---- what is picked of one list, two ways

-- Both are there and alike, or none is.
abbrev pub BothOr : {B C : Type 0} → (B → C → Type 0) → Option B → Option C → Type 0
BothOr R None None = Unit {0}
BothOr R None (Some c) = ⊥
BothOr R (Some b) None = ⊥
BothOr R (Some b) (Some c) = R b c

pub zip_picked : {A B C : Type 0} (R : B → C → Type 0) (f : A → Option B) (g : A → Option C) (xs : List A) → ((x : A) → Has xs x → BothOr R (f x) (g x)) → AllZip R (filter_map f xs) (filter_map g xs)
zip_picked R f g [] each = tt
zip_picked {A} {B} {C} R f g (x ∷ xs) each = by_both (f x) (g x) (each x (inl refl)) (zip_picked R f g xs (λ y h. each y (inr h)))
  where
    by_both : (b : Option B) (c : Option C) → BothOr R b c → AllZip R (filter_map f xs) (filter_map g xs) → AllZip R (cons_option b (filter_map f xs)) (cons_option c (filter_map g xs))
    by_both None None z rest = rest
    by_both None (Some c) z rest = absurd z
    by_both (Some b) None z rest = absurd z
    by_both (Some b) (Some c) z rest = (z, rest)

pub zip_picked_two : {A B C D : Type 0} (Q : A → D → Type 0) (R : B → C → Type 0) (f : A → Option B) (g : D → Option C) → ((x : A) (y : D) → Q x y → BothOr R (f x) (g y))
    → (xs : List A) (ys : List D) → AllZip Q xs ys → AllZip R (filter_map f xs) (filter_map g ys)
zip_picked_two Q R f g each [] [] z = tt
zip_picked_two Q R f g each [] (y ∷ ys) z = absurd z
zip_picked_two Q R f g each (x ∷ xs) [] z = absurd z
zip_picked_two {A} {B} {C} {D} Q R f g each (x ∷ xs) (y ∷ ys) z = by_both (f x) (g y) (each x y z.0) (zip_picked_two Q R f g each xs ys z.1)
  where
    by_both : (b : Option B) (c : Option C) → BothOr R b c → AllZip R (filter_map f xs) (filter_map g ys) → AllZip R (cons_option b (filter_map f xs)) (cons_option c (filter_map g ys))
    by_both None None z rest = rest
    by_both None (Some c) z rest = absurd z
    by_both (Some b) None z rest = absurd z
    by_both (Some b) (Some c) z rest = (z, rest)

-- ---- items with their places

pub zip_indexed : {A B C : Type 0} (R : B → C → Type 0) (f : ℕ → A → B) (g : ℕ → A → C) (at : ℕ) (xs : List A)
    → ((k : ℕ) (x : A) → slice_get xs k ≡ Some x → R (f (at + k) x) (g (at + k) x)) → AllZip R (indexed f at xs) (indexed g at xs)
zip_indexed R f g at [] each = tt
zip_indexed {A} {B} {C} R f g at (x ∷ xs) each = (subst (λ n. R (f n x) (g n x)) (omega arith) (each 0 x refl), zip_indexed R f g (at + 1) xs (λ k y is. subst (λ n. R (f n y) (g n y)) (moved k) (each (suc k) y is)))
  where
    moved : (k : ℕ) → at + suc k ≡ at + 1 + k
    moved k = omega arith

-- a list beside another, each of whose items knows its place
pub zip_placed : {A B C : Type 0} (R : A → B → Type 0) (Q : A → C → Type 0) (f : ℕ → B → C) (at : ℕ) (xs : List A) (ys : List B)
    → ((k : ℕ) (x : A) (y : B) → slice_get xs k ≡ Some x → slice_get ys k ≡ Some y → R x y → Q x (f (at + k) y)) → AllZip R xs ys → AllZip Q xs (indexed f at ys)
zip_placed R Q f at [] [] each z = tt
zip_placed R Q f at [] (y ∷ ys) each z = absurd z
zip_placed R Q f at (x ∷ xs) [] each z = absurd z
zip_placed R Q f at (x ∷ xs) (y ∷ ys) each z =
    (subst (λ n. Q x (f n y)) (omega arith) (each 0 x y refl refl z.0), zip_placed R Q f (at + 1) xs ys (λ k a b ha hb r. subst (λ n. Q a (f n b)) (moved k) (each (suc k) a b ha hb r)) z.1)
  where
    moved : (k : ℕ) → at + suc k ≡ at + 1 + k
    moved k = omega arith

pub indexed_all : {A B : Type 0} (P : B → Type 0) (f : ℕ → A → B) → ((n : ℕ) (x : A) → P (f n x)) → (at : ℕ) (xs : List A) → (y : B) → Has (indexed f at xs) y → P y
indexed_all P f each at [] y has = absurd has
indexed_all P f each at (x ∷ xs) y (inl e) = subst P e (each at x)
indexed_all P f each at (x ∷ xs) y (inr has) = indexed_all P f each (at + 1) xs y has

-- where an item is from
pub record IndexedAs {A B : Type 0} (f : ℕ → A → B) (xs : List A) (y : B) : Type 0 where
  pub place : ℕ
  pub item : A
  pub there : slice_get xs place ≡ Some item
  pub is : f place item ≡ y

has_indexed_from : {A B : Type 0} (f : ℕ → A → B) (at : ℕ) (xs : List A) (y : B) → Has (indexed f at xs) y → (k : ℕ) × (x : A) × (slice_get xs k ≡ Some x) × (f (at + k) x ≡ y)
has_indexed_from f at [] y has = absurd has
has_indexed_from f at (x ∷ xs) y (inl e) = (0, x, refl, subst (λ n. f n x ≡ y) (omega arith) e)
has_indexed_from f at (x ∷ xs) y (inr has) =
    let r = has_indexed_from f (at + 1) xs y has in
    (suc r.0, r.1, r.2, subst (λ n. f n r.1 ≡ y) (moved r.0) r.3)
  where
    moved : (k : ℕ) → at + 1 + k ≡ at + suc k
    moved k = omega arith

pub has_indexed : {A B : Type 0} (f : ℕ → A → B) (at : ℕ) (xs : List A) (y : B) → Has (indexed f at xs) y → at ≡ 0 → IndexedAs f xs y
has_indexed f at xs y has zero_is =
    let r = has_indexed_from f at xs y has in
    record { place = r.0; item = r.1; there = r.2; is = subst (λ n. f n r.1 ≡ y) (omega (arith, zero_is)) r.3 }

-- an item stands at its place
pub indexed_has : {A B : Type 0} (f : ℕ → A → B) (at : ℕ) (xs : List A) (k : ℕ) (x : A) → slice_get xs k ≡ Some x → Has (indexed f at xs) (f (at + k) x)
indexed_has f at [] k x is = absurd cc
indexed_has {A} {B} f at (y ∷ ys) zero x is = inl (subst (λ n. f at y ≡ f n x) (omega arith) (ap (f at) (same y x is)))
  where
    same : (a b : A) → Some a ≡ Some b → a ≡ b
    same a b e = cc
indexed_has f at (y ∷ ys) (suc k) x is = inr (subst (λ n. Has (indexed f (at + 1) ys) (f n x)) (moved k) (indexed_has f (at + 1) ys k x is))
  where
    moved : (n : ℕ) → at + 1 + n ≡ at + suc n
    moved n = omega arith

-- the same from 0 on
from_zero : (k : ℕ) → 0 + k ≡ k
from_zero k = omega arith

pub zip_items : {A B C : Type 0} (R : B → C → Type 0) (f : ℕ → A → B) (g : ℕ → A → C) (xs : List A)
    → ((k : ℕ) (x : A) → slice_get xs k ≡ Some x → R (f k x) (g k x)) → AllZip R (indexed f 0 xs) (indexed g 0 xs)
zip_items R f g xs each = zip_indexed R f g 0 xs (λ k x is. subst (λ n. R (f n x) (g n x)) (sym (from_zero k)) (each k x is))

pub zip_beside : {A B C : Type 0} (R : A → B → Type 0) (Q : A → C → Type 0) (f : ℕ → B → C) (xs : List A) (ys : List B)
    → ((k : ℕ) (x : A) (y : B) → slice_get xs k ≡ Some x → slice_get ys k ≡ Some y → R x y → Q x (f k y)) → AllZip R xs ys → AllZip Q xs (indexed f 0 ys)
zip_beside R Q f xs ys each z = zip_placed R Q f 0 xs ys (λ k x y hx hy r. subst (λ n. Q x (f n y)) (sym (from_zero k)) (each k x y hx hy r)) z

-- of elements of the first
pub zip_beside_has : {A B C : Type 0} (xs : List A) (ys : List B) (R : A → B → Type 0) (Q : A → C → Type 0) (f : ℕ → B → C)
    → ((k : ℕ) (x : A) (y : B) → Has xs x → slice_get xs k ≡ Some x → slice_get ys k ≡ Some y → R x y → Q x (f k y)) → AllZip R xs ys → AllZip Q xs (indexed f 0 ys)
zip_beside_has xs ys R Q f each z = zip_beside R Q f xs ys (λ k x y hx hy r. each k x y (has_at xs k x hx) hx hy r) z

pub item_has : {A B : Type 0} (f : ℕ → A → B) (xs : List A) (k : ℕ) (x : A) → slice_get xs k ≡ Some x → Has (indexed f 0 xs) (f k x)
item_has f xs k x is = subst (λ n. Has (indexed f 0 xs) (f n x)) (from_zero k) (indexed_has f 0 xs k x is)

-- whether they are told apart by their places
pub indexed_apart : {A B : Type 0} (same : B → B → Bool) (f : ℕ → A → B) → ((n k : ℕ) (x y : A) → same (f n x) (f k y) ≡ true → n ≡ k) → (at : ℕ) (xs : List A) → Apart same (indexed f at xs)
indexed_apart same f tells at [] = tt
indexed_apart {A} {B} same f tells at (x ∷ xs) = ((λ y has is. above (at + 1) xs y has is (omega arith)), indexed_apart same f tells (at + 1) xs)
  where
    above : (n : ℕ) (ys : List A) (y : B) → Has (indexed f n ys) y → same (f at x) y ≡ true → suc at ≤ n → ⊥
    above n [] y has is le = has
    above n (z ∷ zs) y (inl e) is le = omega (arith, le, tells at n x z (subst (λ w. same (f at x) w ≡ true) (sym e) is))
    above n (z ∷ zs) y (inr has) is le = above (n + 1) zs y has is (omega (arith, le))

-- ---- filters

pub filter_flat : {A B : Type 0} (t : B → Bool) (f : A → List B) (xs : List A) → filter t (flat_map f xs) ≡ flat_map (λ x. filter t (f x)) xs
filter_flat t f [] = refl
filter_flat t f (x ∷ xs) =
    ap (filter t) (flat_map-cons f x xs) ∙ (filter-append t (f x) (flat_map f xs) ∙ (ap (λ ys. filter t (f x) ++ ys) (filter_flat t f xs) ∙ sym (flat_map-cons (λ y. filter t (f y)) x xs)))

pub filter_none : {A : Type 0} (t : A → Bool) (xs : List A) → ((x : A) → Has xs x → t x ≡ false) → filter t xs ≡ []
filter_none t [] none = refl
filter_none t (x ∷ xs) none = rw (none x (inl refl)) (filter_none t xs (λ y has. none y (inr has)))

pub filter_every : {A : Type 0} (t : A → Bool) (xs : List A) → ((x : A) → Has xs x → t x ≡ true) → filter t xs ≡ xs
filter_every t [] every = refl
filter_every t (x ∷ xs) every = rw (every x (inl refl), filter_every t xs (λ y has. every y (inr has))) refl

pub filter_alike : {A : Type 0} (t u : A → Bool) (xs : List A) → ((x : A) → Has xs x → t x ≡ u x) → filter t xs ≡ filter u xs
filter_alike t u [] same = refl
filter_alike t u (x ∷ xs) same = rw (same x (inl refl), filter_alike t u xs (λ y has. same y (inr has))) refl

pub filter_and : {A : Type 0} (t u : A → Bool) (xs : List A) → filter t (filter u xs) ≡ filter (λ x. u x && t x) xs
filter_and t u [] = refl
filter_and {A} t u (x ∷ xs) = by_test (u x) (filter_and t u xs)
  where
    by_test : (r : Bool) → filter t (filter u xs) ≡ filter (λ y. u y && t y) xs → filter t (cond r (x ∷ filter u xs) (filter u xs)) ≡ cond (r && t x) (x ∷ filter (λ y. u y && t y) xs) (filter (λ y. u y && t y) xs)
    by_test true rest = ap (λ ys. cond (t x) (x ∷ ys) ys) rest
    by_test false rest = rest

and_turned : (a b : Bool) → (a && b) ≡ (b && a)
and_turned true true = refl
and_turned true false = refl
and_turned false true = refl
and_turned false false = refl

pub filter_swap : {A : Type 0} (t u : A → Bool) (xs : List A) → filter t (filter u xs) ≡ filter u (filter t xs)
filter_swap t u xs = filter_and t u xs ∙ (filter_alike (λ x. u x && t x) (λ x. t x && u x) xs (λ x has. and_turned (u x) (t x)) ∙ sym (filter_and u t xs))

-- ---- a list of lists beside one that was picked twice

pub zip_middle : {O A B C : Type 0} (R : A → B → Type 0) (S : B → C → Type 0) (T : A → C → Type 0) (kept_first : O → A → Bool) (kept_second : O → B → Bool) (also : B → Bool) (kept_third : C → Bool) (f : O → List A) (g : O → List B)
    (middle : List O) (zs : List C)
    → ((o : O) → Has middle o → AllZip (λ a b. R a b × ((kept_second o b && also b) ≡ kept_first o a)) (f o) (g o))
    → AllZip (λ b z. S b z × (kept_third z ≡ also b)) (flat_map (λ o. filter (kept_second o) (g o)) middle) zs
    → ((x : A) (y : B) (z : C) → Has (flat_map (λ o. filter (kept_second o) (g o)) middle) y → R x y → S y z → T x z)
    → AllZip T (flat_map (λ o. filter (kept_first o) (f o)) middle) (filter kept_third zs)
zip_middle {O} {A} {B} {C} R S T kept_first kept_second also kept_third f g middle zs each behind both =
    zip_chain (λ x y. Has all y × R x y) S T (λ x y z r s. both x y z r.0 r.1 s) (flat_map (λ o. filter (kept_first o) (f o)) middle) (filter also all) (filter kept_third zs) first second
  where
    all : List B
    all = flat_map (λ o. filter (kept_second o) (g o)) middle

    picked : flat_map (λ o. filter (λ b. kept_second o b && also b) (g o)) middle ≡ filter also all
    picked =
        flat_same (λ o. filter (λ b. kept_second o b && also b) (g o)) (λ o. filter also (filter (kept_second o) (g o))) middle (λ o. sym (filter_and also (kept_second o) (g o)))
        ∙ sym (filter_flat also (λ o. filter (kept_second o) (g o)) middle)
      where
        flat_same : (a b : O → List B) (os : List O) → ((o : O) → a o ≡ b o) → flat_map a os ≡ flat_map b os
        flat_same a b [] same = refl
        flat_same a b (o ∷ os) same = flat_map-cons a o os ∙ (ap (λ xs. xs ++ flat_map a os) (same o) ∙ (ap (λ xs. b o ++ xs) (flat_same a b os same) ∙ sym (flat_map-cons b o os)))

    sides : AllZip R (flat_map (λ o. filter (kept_first o) (f o)) middle) (filter also all)
    sides =
        subst (AllZip R (flat_map (λ o. filter (kept_first o) (f o)) middle)) picked
        (zip_flat R (λ o. filter (kept_first o) (f o)) (λ o. filter (λ b. kept_second o b && also b) (g o)) middle
        (λ o has. zip_more (λ a b. R a b × ((kept_second o b && also b) ≡ kept_first o a)) R (λ a b r. r.0) (filter (kept_first o) (f o)) (filter (λ b. kept_second o b && also b) (g o))
        (zip_filter (λ a b. R a b × ((kept_second o b && also b) ≡ kept_first o a)) (kept_first o) (λ b. kept_second o b && also b) (λ a b r. r.1) (f o) (g o) (each o has))))

    first : AllZip (λ x y. Has all y × R x y) (flat_map (λ o. filter (kept_first o) (f o)) middle) (filter also all)
    first = zip_has R (λ x y. Has all y × R x y) (flat_map (λ o. filter (kept_first o) (f o)) middle) (filter also all) (λ x y hx hy r. ((has_filter also all y hy).0, r)) sides

    second : AllZip S (filter also all) (filter kept_third zs)
    second =
        zip_more (λ b z. S b z × (kept_third z ≡ also b)) S (λ b z r. r.0) (filter also all) (filter kept_third zs)
        (zip_filter (λ b z. S b z × (kept_third z ≡ also b)) also kept_third (λ b z r. r.1) all zs behind)

pub flat_alike : {O A : Type 0} (f g : O → List A) (os : List O) → ((o : O) → f o ≡ g o) → flat_map f os ≡ flat_map g os
flat_alike f g [] same = refl
flat_alike f g (o ∷ os) same = flat_map-cons f o os ∙ (ap (λ xs. xs ++ flat_map f os) (same o) ∙ (ap (λ xs. g o ++ xs) (flat_alike f g os same) ∙ sym (flat_map-cons g o os)))

-- each of the first is told by the second
pub zip_told : {A B C : Type 0} (R : A → B → Type 0) (Q : A → C → Type 0) (f : B → Option C) (xs : List A) (ys : List B)
    → ((x : A) (y : B) → Has ys y → R x y → (z : C) × (f y ≡ Some z) × Q x z) → AllZip R xs ys → AllZip Q xs (filter_map f ys)
zip_told R Q f [] [] each z = tt
zip_told R Q f [] (y ∷ ys) each z = absurd z
zip_told R Q f (x ∷ xs) [] each z = absurd z
zip_told {A} {B} {C} R Q f (x ∷ xs) (y ∷ ys) each z =
    let it = each x y (inl refl) z.0 in
    subst (λ o. AllZip Q (x ∷ xs) (cons_option o (filter_map f ys))) (sym it.1) (it.2, zip_told R Q f xs ys (λ a b h r. each a b (inr h) r) z.1)
