-- What a place in a list of places finds.
use Rattle.std.proofs.Common.{◌≡◌, ℕ, zero, suc, ◌+◌, ◌-◌, ◌<◌, ◌≤◌, Bool, true, false, List, [], ◌∷◌, ◌++◌, length, map, filter, filter_map, get_or, slice_get, Option, Some, None, is_some, refl, sym, ap, ◌∙◌, arith}
use Rattle.std.proofs.lemmas.Option.{same_Some, slice_get-map, get_or_from_slice_get, unwrap_or-slice_get}
use Rattle.std.specs.Option.{option_map, option_and_then, unwrap_or}

looked_up : {A : Type 0} (xs ys : List A) (places : List ℕ) (k : ℕ) → map (slice_get xs) places ≡ map (λ x. Some x) ys
    → option_map (slice_get xs) (slice_get places k) ≡ option_map (λ x. Some x) (slice_get ys k)
looked_up {A = A} xs ys places k held =
    sym (slice_get-map (slice_get xs) places k) ∙ ap (λ zs. slice_get zs k) held ∙ slice_get-map {A = A} {B = Option A} (λ x. Some x) ys k

-- the index is past them
pub missed : {A : Type 0} (xs ys : List A) (places : List ℕ) (k : ℕ) → map (slice_get xs) places ≡ map (λ x. Some x) ys
    → slice_get places k ≡ None → slice_get ys k ≡ None
missed {A = A} xs ys places k held none = by (slice_get ys k) (ap (option_map (slice_get xs)) (sym none) ∙ looked_up xs ys places k held)
  where
    by : (found : Option A) → None ≡ option_map (λ x. Some x) found → found ≡ None
    by None e = refl
    by (Some x) e = cc

-- the index is that of one of them
pub found : {A : Type 0} (xs ys : List A) (places : List ℕ) (k at : ℕ) → map (slice_get xs) places ≡ map (λ x. Some x) ys
    → slice_get places k ≡ Some at → slice_get ys k ≡ slice_get xs at
found {A = A} xs ys places k at held some = by (slice_get ys k) (ap (option_map (slice_get xs)) (sym some) ∙ looked_up xs ys places k held)
  where
    by : (x : Option A) → Some (slice_get xs at) ≡ option_map (λ x. Some x) x → x ≡ slice_get xs at
    by None e = cc
    by (Some x) e = cc

-- there is one
pub one_there : {A : Type 0} (xs ys : List A) (places : List ℕ) (k at : ℕ) → map (slice_get xs) places ≡ map (λ x. Some x) ys
    → slice_get places k ≡ Some at → (x : A) × (slice_get xs at ≡ Some x)
one_there {A = A} xs ys places k at held some = by (slice_get ys k) (ap (option_map (slice_get xs)) (sym some) ∙ looked_up xs ys places k held)
  where
    by : (x : Option A) → Some (slice_get xs at) ≡ option_map (λ x. Some x) x → (x : A) × (slice_get xs at ≡ Some x)
    by None e = absurd cc
    by (Some x) e = (x, same_Some {A = Option A} (slice_get xs at) (Some x) e)

-- there are as many places
pub counted : {A : Type 0} (xs ys : List A) (places : List ℕ) → map (slice_get xs) places ≡ map (λ x. Some x) ys → length places ≡ length ys
counted {A = A} xs ys places held = sym (length-map (slice_get xs) places) ∙ ap length held ∙ length-map {A = A} {B = Option A} (λ x. Some x) ys
  where
    length-map : {A B : Type 0} (f : A → B) (zs : List A) → length (map f zs) ≡ length zs
    length-map f [] = refl
    length-map f (z ∷ zs) = ap suc (length-map f zs)

-- ---- two lists, one behind the other

pub front : {A : Type 0} (xs ys : List A) (k : ℕ) → k < length xs → slice_get (xs ++ ys) k ≡ slice_get xs k
front [] ys k lt = absurd (omega arith)
front (x ∷ xs) ys zero lt = refl
front (x ∷ xs) ys (suc k) lt = front xs ys k (omega arith)

pub behind : {A : Type 0} (xs ys : List A) (j k : ℕ) → k ≡ length xs + j → slice_get (xs ++ ys) k ≡ slice_get ys j
behind [] ys j k e = ap (slice_get ys) (omega arith)
behind (x ∷ xs) ys j zero e = absurd (omega arith)
behind (x ∷ xs) ys j (suc k) e = behind xs ys j k (omega arith)

-- ---- what some elements give

parted : {B : Type 0} {v : Option B} {b : Bool} (y : B) → v ≡ Some y → b ≡ false → is_some v ≡ b → ⊥
parted y e h s = true-false (ap is_some (sym e) ∙ s ∙ h)
  where
    true-false : true ≡ false → ⊥
    true-false e = cc

lost : {B : Type 0} {v : Option B} {b : Bool} → v ≡ None → b ≡ true → is_some v ≡ b → ⊥
lost e h s = false-true (ap is_some (sym e) ∙ s ∙ h)
  where
    false-true : false ≡ true → ⊥
    false-true e = cc

kept : {A B : Type 0} (f : A → Option B) (test : A → Bool) → ((a : A) → is_some (f a) ≡ test a) → (xs : List A) (k : ℕ)
    → slice_get (filter_map f xs) k ≡ option_and_then f (slice_get (filter test xs) k)
kept f test same [] k = refl
kept {A = A} {B = B} f test same (x ∷ xs) k = by (f x) (test x) refl refl (same x) (kept f test same xs) k
  where
    by : (v : Option B) (b : Bool) → f x ≡ v → test x ≡ b → is_some (f x) ≡ test x
        → ((k : ℕ) → slice_get (filter_map f xs) k ≡ option_and_then f (slice_get (filter test xs) k))
        → (k : ℕ) → slice_get (filter_map f (x ∷ xs)) k ≡ option_and_then f (slice_get (filter test (x ∷ xs)) k)
    by (Some y) true e h s rest zero = rw (e, h) (sym e)
    by (Some y) true e h s rest (suc k) = rw (e, h) (rest k)
    by None false e h s rest k = rw (e, h) (rest k)
    by (Some y) false e h s rest k = absurd (parted y e h s)
    by None true e h s rest k = absurd (lost e h s)

kept_count : {A B : Type 0} (f : A → Option B) (test : A → Bool) → ((a : A) → is_some (f a) ≡ test a) → (xs : List A)
    → length (filter_map f xs) ≡ length (filter test xs)
kept_count f test same [] = refl
kept_count {A = A} {B = B} f test same (x ∷ xs) = by (f x) (test x) refl refl (same x) (kept_count f test same xs)
  where
    by : (v : Option B) (b : Bool) → f x ≡ v → test x ≡ b → is_some (f x) ≡ test x → length (filter_map f xs) ≡ length (filter test xs)
        → length (filter_map f (x ∷ xs)) ≡ length (filter test (x ∷ xs))
    by (Some y) true e h s rest = rw (e, h) (ap suc rest)
    by None false e h s rest = rw (e, h) rest
    by (Some y) false e h s rest = absurd (parted y e h s)
    by None true e h s rest = absurd (lost e h s)

-- an index that is imported
pub imported : {A B : Type 0} (f : A → Option B) (test : A → Bool) → ((a : A) → is_some (f a) ≡ test a)
    → (xs : List A) (places : List ℕ) (rest : List B) (k : ℕ)
    → map (slice_get xs) places ≡ map (λ x. Some x) (filter test xs) → k < length places
    → slice_get (filter_map f xs ++ rest) k ≡ option_and_then f (slice_get (filter test xs) k)
imported f test same xs places rest k held lt =
    front (filter_map f xs) rest k (omega (arith, counted xs (filter test xs) places held, kept_count f test same xs)) ∙ kept f test same xs k

-- one that is defined
pub defined : {A B : Type 0} (f : A → Option B) (test : A → Bool) → ((a : A) → is_some (f a) ≡ test a)
    → (xs : List A) (places : List ℕ) (rest : List B) (k : ℕ)
    → map (slice_get xs) places ≡ map (λ x. Some x) (filter test xs) → length places ≤ k
    → slice_get (filter_map f xs ++ rest) k ≡ slice_get rest (k - length places)
defined f test same xs places rest k held le =
    behind (filter_map f xs) rest (k - length places) k (omega (arith, counted xs (filter test xs) places held, kept_count f test same xs))

-- ---- an element, or something else

pub or_else : {A : Type 0} (o : Option A) (xs : List A) (i : ℕ) (d : A) → o ≡ slice_get xs i → unwrap_or o d ≡ get_or xs i d
or_else o xs i d e = ap (λ o. unwrap_or o d) e ∙ unwrap_or-slice_get xs i d

pub mapped : {A B : Type 0} (f : A → B) (xs : List A) (i : ℕ) (x : A) (d : B) → slice_get xs i ≡ Some x → get_or (map f xs) i d ≡ f x
mapped f xs i x d some = get_or_from_slice_get (map f xs) i (f x) d (slice_get-map f xs i ∙ ap (option_map f) some)

pub mapped_past : {A B : Type 0} (f : A → B) (xs : List A) (i : ℕ) (d : B) → slice_get xs i ≡ None → get_or (map f xs) i d ≡ d
mapped_past f xs i d none = sym (unwrap_or-slice_get (map f xs) i d) ∙ ap (λ o. unwrap_or o d) (slice_get-map f xs i ∙ ap (option_map f) none)
