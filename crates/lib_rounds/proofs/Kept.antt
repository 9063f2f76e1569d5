-- What stands in lists that are filtered, mapped and joined.
use Rattle.std.proofs.Common.{◌≡◌, ℕ, zero, suc, ◌≤◌, ◌<◌, Bool, true, false, List, [], ◌∷◌, ◌++◌, length, refl, sym, subst, arith, inl, inr, ◌⊎◌, slice_index_or}
use Rattle.std.specs.Prelude.{All, AllPairs, Contains, map, filter, ◌==◌}
use Rattle.std.specs.List.{list_any}
use Rattle.std.proofs.lemmas.Bool.{cases_Bool, eqb-true, eq-eqb}
use Rattle.std.proofs.lemmas.List.Elements.{All-nil, All-cons, All-append, All-head, All-tail, All-weaker, All-contains, All-contains_itself}
use Rattle.std.proofs.lemmas.List.Kept.{AllPairs-cons}

-- ---- elements

pub contains_head : {X : Type 0} (x : X) (xs : List X) → Contains (x ∷ xs) x
contains_head x xs = (0, omega arith, refl)

pub contains_tail : {X : Type 0} (y : X) (ys : List X) (x : X) → Contains ys x → Contains (y ∷ ys) x
contains_tail y ys x h = (suc h.0, omega (arith, h.1), h.2)

pub contains_none : {X : Type 0} (x : X) → Contains [] x → ⊥
contains_none x h = omega (arith, h.1)

cases_at : {X : Type 0} (y : X) (ys : List X) (x : X) (k : ℕ) → k < length (y ∷ ys) → slice_index_or (y ∷ ys) k x ≡ x → (y ≡ x) ⊎ Contains ys x
cases_at y ys x zero l e = inl e
cases_at y ys x (suc k) l e = inr (k, omega (arith, l), e)

pub contains_cases : {X : Type 0} (y : X) (ys : List X) (x : X) → Contains (y ∷ ys) x → (y ≡ x) ⊎ Contains ys x
contains_cases y ys x h = cases_at y ys x h.0 h.1 h.2

pub all_from : {X : Type 0} (P : X → Type 0) (xs : List X) → ((x : X) → Contains xs x → P x) → All P xs
all_from P xs h = All-weaker (Contains xs) P h xs (All-contains_itself xs)

-- whether a number is there
pub any_contains : (x : ℕ) (xs : List ℕ) → list_any (λ k. k == x) xs ≡ true → Contains xs x
any_contains x [] e = absurd cc
any_contains x (y ∷ ys) e = elim (cases_Bool (y == x)) [
  | inl same ↦ subst (λ (z : ℕ). Contains (y ∷ ys) z) (eqb-true y x same) (contains_head y ys)
  | inr other ↦ contains_tail y ys x (any_contains x ys (rw other at e))
]

pub contains_any : (x : ℕ) (xs : List ℕ) → Contains xs x → list_any (λ k. k == x) xs ≡ true
contains_any x [] h = absurd (contains_none x h)
contains_any x (y ∷ ys) h = elim (cases_Bool (y == x)) [
  | inl same ↦ rw same refl
  | inr other ↦ elim (contains_cases y ys x h) [
    | inl e ↦ let is : (y == x) ≡ true = eq-eqb y x e in absurd cc
    | inr later ↦ rw other (contains_any x ys later)
  ]
]

-- ---- filters

all_kept : {X : Type 0} (p : X → Bool) (Q : X → Type 0) (xs : List X) → All (λ x. p x ≡ true → Q x) xs → All Q (filter p xs)
all_kept {X} p Q [] h = All-nil Q
all_kept {X} p Q (x ∷ xs) h =
    let others = all_kept p Q xs (All-tail (λ (y : X). p y ≡ true → Q y) x xs h) in
    elim (cases_Bool (p x)) [ inl is ↦ rw is (All-cons Q x (filter p xs) (All-head (λ (y : X). p y ≡ true → Q y) x xs h is) others) | inr not_so ↦ rw not_so others ]

pub was_kept : {X : Type 0} (p : X → Bool) (xs : List X) (x : X) → Contains (filter p xs) x → Contains xs x × (p x ≡ true)
was_kept {X} p xs x h =
    All-contains (λ (y : X). Contains xs y × (p y ≡ true)) (filter p xs) x
    (all_kept p (λ (y : X). Contains xs y × (p y ≡ true)) xs (all_from (λ (y : X). p y ≡ true → Contains xs y × (p y ≡ true)) xs (λ y c t. (c, t)))) h

pub kept : {X : Type 0} (p : X → Bool) (xs : List X) (x : X) → Contains xs x → p x ≡ true → Contains (filter p xs) x
kept {X} p [] x h t = absurd (contains_none x h)
kept {X} p (y ∷ ys) x h t = elim (contains_cases y ys x h) [
  | inl same ↦ let is : p y ≡ true = subst (λ (z : X). p z ≡ true) (sym same) t in rw is (subst (λ (z : X). Contains (y ∷ filter p ys) z) same (contains_head y (filter p ys)))
  | inr later ↦ let others = kept p ys x later t in elim (cases_Bool (p y)) [ inl is ↦ rw is (contains_tail y (filter p ys) x others) | inr not_so ↦ rw not_so others ]
]

pub fewer : {X : Type 0} (p q : X → Bool) → ((x : X) → q x ≡ true → p x ≡ true) → (xs : List X) → length (filter q xs) ≤ length (filter p xs)
fewer p q h [] = omega arith
fewer p q h (x ∷ xs) =
    let others = fewer p q h xs in
    elim (cases_Bool (q x)) [
      | inl is ↦ let also = h x is in rw (is, also) (omega (arith, others))
      | inr not_so ↦ elim (cases_Bool (p x)) [ inl is ↦ rw (not_so, is) (omega (arith, others)) | inr none ↦ rw (not_so, none) others ]
    ]

pub fewer_by : {X : Type 0} (p q : X → Bool) → ((x : X) → q x ≡ true → p x ≡ true) → (xs : List X) (x : X) → Contains xs x → p x ≡ true → q x ≡ false → length (filter q xs) < length (filter p xs)
fewer_by {X} p q h [] x c t f = absurd (contains_none x c)
fewer_by {X} p q h (y ∷ ys) x c t f = elim (contains_cases y ys x c) [
  | inl same ↦
      let is : p y ≡ true = subst (λ (z : X). p z ≡ true) (sym same) t in
      let not_so : q y ≡ false = subst (λ (z : X). q z ≡ false) (sym same) f in
      let others = fewer p q h ys in rw (is, not_so) (omega (arith, others))
  | inr later ↦
      let others = fewer_by p q h ys x later t f in
      elim (cases_Bool (q y)) [
        | inl is ↦ let also = h y is in rw (is, also) (omega (arith, others))
        | inr not_so ↦ elim (cases_Bool (p y)) [ inl is ↦ rw (not_so, is) (omega (arith, others)) | inr none ↦ rw (not_so, none) others ]
      ]
]

pub fewest : {X : Type 0} (p : X → Bool) (xs : List X) → length (filter p xs) ≤ length xs
fewest p [] = omega arith
fewest p (x ∷ xs) = let others = fewest p xs in elim (cases_Bool (p x)) [ inl is ↦ rw is (omega (arith, others)) | inr not_so ↦ rw not_so (omega (arith, others)) ]

-- ---- maps

pub contains_map : {X Y : Type 0} (f : X → Y) (xs : List X) (x : X) → Contains xs x → Contains (map f xs) (f x)
contains_map {X} {Y} f [] x h = absurd (contains_none x h)
contains_map {X} {Y} f (y ∷ ys) x h = elim (contains_cases y ys x h) [
  | inl same ↦ subst (λ (z : X). Contains (f y ∷ map f ys) (f z)) same (contains_head (f y) (map f ys))
  | inr later ↦ contains_tail (f y) (map f ys) (f x) (contains_map f ys x later)
]

pub was_mapped : {X Y : Type 0} (f : X → Y) (xs : List X) (y : Y) → Contains (map f xs) y → (x : X) × Contains xs x × (f x ≡ y)
was_mapped f [] y h = absurd (contains_none y h)
was_mapped f (x ∷ xs) y h = elim (contains_cases (f x) (map f xs) y h) [
  | inl same ↦ (x, contains_head x xs, same)
  | inr later ↦ let r = was_mapped f xs y later in (r.0, contains_tail x xs r.0 r.1, r.2)
]

-- ---- pairs

pub pairs_none : {X : Type 0} (R : X → X → Type 0) → AllPairs R []
pairs_none R = λ i j d lt within. absurd (omega (arith, within))

pub pairs_first : {X : Type 0} (R : X → X → Type 0) (x : X) (xs : List X) → AllPairs R (x ∷ xs) → All (R x) xs
pairs_first R x xs pairs = λ k d lt. pairs 0 (suc k) d (omega arith) (omega (arith, lt))

pub pairs_later : {X : Type 0} (R : X → X → Type 0) (x : X) (xs : List X) → AllPairs R (x ∷ xs) → AllPairs R xs
pairs_later R x xs pairs = λ i j d lt within. pairs (suc i) (suc j) d (omega (arith, lt)) (omega (arith, within))

pub pairs_joined : {X : Type 0} (R : X → X → Type 0) (xs ys : List X) → AllPairs R xs → AllPairs R ys → ((x y : X) → Contains xs x → Contains ys y → R x y) → AllPairs R (xs ++ ys)
pairs_joined R [] ys p q h = q
pairs_joined {X} R (x ∷ xs) ys p q h =
    AllPairs-cons R x (xs ++ ys)
    (All-append (R x) xs ys (pairs_first R x xs p) (all_from (R x) ys (λ y c. h x y (contains_head x xs) c)))
    (pairs_joined R xs ys (pairs_later R x xs p) q (λ z y c d. h z y (contains_tail x xs z c) d))

-- what holds of all pairs of a list does so of what a filter leaves
pub pairs_kept : {X : Type 0} (R : ℕ → ℕ → Type 0) (f : X → ℕ) (p : X → Bool) (xs : List X) → AllPairs R (map f xs) → AllPairs R (map f (filter p xs))
pairs_kept {X} R f p [] h = h
pairs_kept {X} R f p (x ∷ xs) h =
    let others = pairs_kept R f p xs (pairs_later R (f x) (map f xs) h) in
    let first = all_from (R (f x)) (map f (filter p xs)) (λ b c.
    let r = was_mapped f (filter p xs) b c in
    let k = was_kept p xs r.0 r.1 in
    All-contains (R (f x)) (map f xs) b (pairs_first R (f x) (map f xs) h) (subst (λ (z : ℕ). Contains (map f xs) z) r.2 (contains_map f xs r.0 k.0))) in
    elim (cases_Bool (p x)) [ inl is ↦ rw is (AllPairs-cons R (f x) (map f (filter p xs)) first others) | inr not_so ↦ rw not_so others ]
