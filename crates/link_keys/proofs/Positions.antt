-- First places.
use Rattle.std.proofs.Common.{◌≡◌, ◌⊎◌, inl, inr, ℕ, zero, suc, ◌+◌, ◌<◌, ◌≤◌, nat_lt, Bool, true, false, not, cond, List, [], ◌∷◌, ◌++◌, map, length, slice_get, get_or, take, position, Option, Some, None, option_map, unwrap_or, refl, sym, ap, ◌∙◌, arith}
use Rattle.std.specs.List.{position_or_len, list_any, All}
use Rattle.std.proofs.lemmas.Bool.Decides.{nat_tests}
use Rattle.std.proofs.lemmas.Grind.{common_steps}
use Rattle.std.proofs.lemmas.List.{length-map}
use Rattle.std.proofs.lemmas.List.Elements.{All-head, All-tail}
use Rattle.link_program.specs.index_layout.Numbers.{number_by}

shift : (l n : ℕ) → cond (nat_lt (1 + l) (suc n)) (Some (1 + l)) None ≡ option_map suc (cond (nat_lt l n) (Some l) None)
shift l n = grind (arith, nat_tests)

pub position_next : {A : Type 0} (p : A → Bool) (x : A) (xs : List A) → p x ≡ false → position p (x ∷ xs) ≡ option_map suc (position p xs)
position_next p x xs e = rw e (shift (position_or_len p xs) (length xs))

pub position_first : {A : Type 0} (p : A → Bool) (x : A) (xs : List A) → p x ≡ true → position p (x ∷ xs) ≡ Some 0
position_first p x xs e = rw e (grind (arith, nat_tests))

-- ---- the same place in another list

module _ {A B : Type 0} (f : A → B) (p : A → Bool) (q : B → Bool) where
  same_len : (xs : List A) → All (λ x. q (f x) ≡ p x) xs → position_or_len q (map f xs) ≡ position_or_len p xs
  same_len [] all = refl
  same_len (x ∷ xs) all = rw (All-head (λ y. q (f y) ≡ p y) x xs all, same_len xs (All-tail (λ y. q (f y) ≡ p y) x xs all)) refl

  pub position_of_map : (xs : List A) → All (λ x. q (f x) ≡ p x) xs → position q (map f xs) ≡ position p xs
  position_of_map xs all = rw (same_len xs all, length-map xs f) refl

-- The number of a key among keys that are told is its number.
pub number_of_map : {A B : Type 0} (f : A → B) (same : A → A → Bool) (told : B → B → Bool) (x : A) (xs : List A)
    → All (λ y. told (f x) (f y) ≡ same x y) xs → number_by told (map f xs) (f x) ≡ number_by same xs x
number_of_map f same told x xs all = ap (λ o. unwrap_or o 0) (position_of_map f (same x) (told (f x)) xs all)

-- ---- a list and one more

pub position_none : {A : Type 0} (p : A → Bool) (xs : List A) → list_any p xs ≡ false → position p xs ≡ None
position_none p [] e = refl
position_none {A} p (x ∷ xs) e = by_head (p x) refl (position_none p xs)
  where
    by_head : (r : Bool) → p x ≡ r → (list_any p xs ≡ false → position p xs ≡ None) → position p (x ∷ xs) ≡ None
    by_head true is again = absurd cc
    by_head false is again = let rest : list_any p xs ≡ false = cc in position_next p x xs is ∙ ap (option_map suc) (again rest)

pub position_stays : {A : Type 0} (p : A → Bool) (xs ys : List A) (n : ℕ) → position p xs ≡ Some n → position p (xs ++ ys) ≡ Some n
position_stays p [] ys n at = absurd cc
position_stays {A} p (x ∷ xs) ys n at = by_head (p x) refl (λ m. position_stays p xs ys m)
  where
    by_rest : (o : Option ℕ) → position p xs ≡ o → p x ≡ false → ((m : ℕ) → position p xs ≡ Some m → position p (xs ++ ys) ≡ Some m) → position p (x ∷ xs ++ ys) ≡ Some n
    by_rest None none is again = absurd (let e = position_next p x xs is ∙ ap (option_map suc) none in cc)
    by_rest (Some m) some is again =
        let e : Some (suc m) ≡ Some n = sym (position_next p x xs is ∙ ap (option_map suc) some) ∙ at in
        position_next p x (xs ++ ys) is ∙ ap (option_map suc) (again m some) ∙ e

    by_head : (r : Bool) → p x ≡ r → ((m : ℕ) → position p xs ≡ Some m → position p (xs ++ ys) ≡ Some m) → position p (x ∷ xs ++ ys) ≡ Some n
    by_head true is again = position_first p x (xs ++ ys) is ∙ sym (position_first p x xs is) ∙ at
    by_head false is again = by_rest (position p xs) refl is again

pub position_last : {A : Type 0} (p : A → Bool) (xs : List A) (x : A) → list_any p xs ≡ false → p x ≡ true → position p (xs ++ x ∷ []) ≡ Some (length xs)
position_last p [] x none is = position_first p x [] is
position_last {A} p (y ∷ xs) x none is = by_head (p y) refl (λ rest. position_last p xs x rest is)
  where
    by_head : (r : Bool) → p y ≡ r → (list_any p xs ≡ false → position p (xs ++ x ∷ []) ≡ Some (length xs)) → position p (y ∷ xs ++ x ∷ []) ≡ Some (suc (length xs))
    by_head true e again = absurd cc
    by_head false e again = let rest : list_any p xs ≡ false = cc in position_next p y (xs ++ x ∷ []) e ∙ ap (option_map suc) (again rest)

pub position_past : {A : Type 0} (p : A → Bool) (xs ys : List A) (n : ℕ) → list_any p xs ≡ false → position p (xs ++ ys) ≡ Some n → length xs ≤ n
position_past p [] ys n none at = omega arith
position_past {A} p (x ∷ xs) ys n none at = by_head (p x) refl (λ m. position_past p xs ys m)
  where
    by_rest : (o : Option ℕ) → position p (xs ++ ys) ≡ o → p x ≡ false → ((m : ℕ) → list_any p xs ≡ false → position p (xs ++ ys) ≡ Some m → length xs ≤ m) → suc (length xs) ≤ n
    by_rest None is e again = absurd (let f : None ≡ Some n = sym (position_next p x (xs ++ ys) e ∙ ap (option_map suc) is) ∙ at in cc)
    by_rest (Some m) is e again =
        let f : Some (suc m) ≡ Some n = sym (position_next p x (xs ++ ys) e ∙ ap (option_map suc) is) ∙ at in
        let same : suc m ≡ n = cc in
        let rest : list_any p xs ≡ false = cc in
        let le = again m rest is in omega arith

    by_head : (r : Bool) → p x ≡ r → ((m : ℕ) → list_any p xs ≡ false → position p (xs ++ ys) ≡ Some m → length xs ≤ m) → suc (length xs) ≤ n
    by_head true e again = absurd cc
    by_head false e again = by_rest (position p (xs ++ ys)) refl e again

-- what stands in a list with one more item stood there before, or is that item
pub last_or_before : {A : Type 0} (xs : List A) (x : A) (k : ℕ) (y : A) → slice_get (xs ++ x ∷ []) k ≡ Some y → (slice_get xs k ≡ Some y) ⊎ ((k ≡ length xs) × (x ≡ y))
last_or_before [] x zero y e = inr (refl, cc)
last_or_before [] x (suc k) y e = absurd cc
last_or_before (z ∷ xs) x zero y e = inl e
last_or_before (z ∷ xs) x (suc k) y e = elim (last_or_before xs x k y e) [ inl a ↦ inl a | inr b ↦ inr (ap suc b.0 ∙ omega arith, b.1) ]

pub take_one : {A : Type 0} (xs : List A) (n : ℕ) (x : A) → slice_get xs n ≡ Some x → take (suc n) xs ≡ take n xs ++ x ∷ []
take_one [] n x at = absurd cc
take_one (y ∷ xs) zero x at = let e : y ≡ x = cc in rw e refl
take_one (y ∷ xs) (suc n) x at = ap (λ r. y ∷ r) (take_one xs n x at)
