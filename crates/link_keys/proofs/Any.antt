-- Whether one of a list passes.
use Rattle.std.proofs.Common.{◌≡◌, ℕ, zero, suc, ◌+◌, ◌<◌, Bool, true, false, ◌&&◌, ◌||◌, cond, List, [], ◌∷◌, ◌++◌, map, filter, filter_map, flat_map, length, slice_get, get_or, Option, Some, None, option_map, refl, sym, ap, subst, ◌∙◌, arith, append-nil}
use Rattle.std.specs.Prelude.{if◌then◌else◌}
use Rattle.std.specs.List.{list_any, All, cons_option}
use Rattle.std.proofs.lemmas.List.{map-append}
use Rattle.std.proofs.lemmas.List.Folds.{list_any-append}
use Rattle.std.proofs.lemmas.List.Elements.{All-head, All-tail, All-cons, All-append}
use Rattle.std.proofs.lemmas.Option.{slice_get-map, get_or_from_slice_get}
use Rattle.link_program.specs.wl_base.Choice.{distinct_onto}

pub or_right : (a b : Bool) → b ≡ true → (a || b) ≡ true
or_right true b e = refl
or_right false b e = e

pub or_left : (a b : Bool) → a ≡ true → (a || b) ≡ true
or_left true b e = refl
or_left false b e = absurd cc

pub any_at : {A : Type 0} (test : A → Bool) (xs : List A) (i : ℕ) (x : A) → slice_get xs i ≡ Some x → test x ≡ true → list_any test xs ≡ true
any_at test [] i x at is = absurd cc
any_at test (y ∷ xs) zero x at is = let e : y ≡ x = cc in or_left (test y) (list_any test xs) (ap test e ∙ is)
any_at test (y ∷ xs) (suc i) x at is = or_right (test y) (list_any test xs) (any_at test xs i x at is)

pub any_left : {A : Type 0} (test : A → Bool) (xs ys : List A) → list_any test xs ≡ true → list_any test (xs ++ ys) ≡ true
any_left test xs ys is = list_any-append test xs ys ∙ or_left (list_any test xs) (list_any test ys) is

pub any_right : {A : Type 0} (test : A → Bool) (xs ys : List A) → list_any test ys ≡ true → list_any test (xs ++ ys) ≡ true
any_right test xs ys is = list_any-append test xs ys ∙ or_right (list_any test xs) (list_any test ys) is

pub any_map : {A B : Type 0} (test : B → Bool) (f : A → B) (xs : List A) → list_any test (map f xs) ≡ list_any (λ x. test (f x)) xs
any_map test f [] = refl
any_map test f (x ∷ xs) = ap (λ r. test (f x) || r) (any_map test f xs)

pub any_flat_map : {A B : Type 0} (test : B → Bool) (f : A → List B) (xs : List A) (i : ℕ) (x : A) → slice_get xs i ≡ Some x → list_any test (f x) ≡ true → list_any test (flat_map f xs) ≡ true
any_flat_map test f [] i x at is = absurd cc
any_flat_map test f (y ∷ xs) zero x at is = let e : y ≡ x = cc in any_left test (f y) (flat_map f xs) (ap (λ z. list_any test (f z)) e ∙ is)
any_flat_map test f (y ∷ xs) (suc i) x at is = any_right test (f y) (flat_map f xs) (any_flat_map test f xs i x at is)

any_kept : {A : Type 0} (test keep : A → Bool) (x : A) (xs rest : List A) (r : Bool) → keep x ≡ r → list_any test rest ≡ list_any (λ y. keep y && test y) xs → list_any test (cond r (x ∷ rest) rest) ≡ ((r && test x) || list_any (λ y. keep y && test y) xs)
any_kept test keep x xs rest true is again = ap (λ r. test x || r) again
any_kept test keep x xs rest false is again = again

pub any_filter : {A : Type 0} (test keep : A → Bool) (xs : List A) → list_any test (filter keep xs) ≡ list_any (λ x. keep x && test x) xs
any_filter test keep [] = refl
any_filter test keep (x ∷ xs) = any_kept test keep x xs (filter keep xs) (keep x) refl (any_filter test keep xs)

abbrev pub option_any : {A : Type 0} → (A → Bool) → Option A → Bool
option_any test None = false
option_any test (Some x) = test x

any_given : {B : Type 0} (test : B → Bool) (o : Option B) (ys : List B) → list_any test (cons_option o ys) ≡ (option_any test o || list_any test ys)
any_given test None ys = refl
any_given test (Some y) ys = refl

pub any_filter_map : {A B : Type 0} (test : B → Bool) (h : A → Option B) (xs : List A) → list_any test (filter_map h xs) ≡ list_any (λ x. option_any test (h x)) xs
any_filter_map test h [] = refl
any_filter_map test h (x ∷ xs) = any_given test (h x) (filter_map h xs) ∙ ap (λ r. option_any test (h x) || r) (any_filter_map test h xs)

-- Tests that agree on all items.
pub any_same : {A : Type 0} (p q : A → Bool) (xs : List A) → All (λ x. p x ≡ q x) xs → list_any p xs ≡ list_any q xs
any_same p q [] all = refl
any_same p q (x ∷ xs) all = rw (All-head (λ y. p y ≡ q y) x xs all, any_same p q xs (All-tail (λ y. p y ≡ q y) x xs all)) refl

-- What one fact of all items gives for another.
pub all_each : {A : Type 0} (P Q : A → Type 0) → ((x : A) → P x → Q x) → (xs : List A) → All P xs → All Q xs
all_each P Q each [] all = λ k d below. absurd (omega arith)
all_each P Q each (x ∷ xs) all = All-cons Q x xs (each x (All-head P x xs all)) (all_each P Q each xs (All-tail P x xs all))

pub all_none : {A : Type 0} (P : A → Type 0) → All P []
all_none P = λ k d below. absurd (omega arith)

pub all_at : {A : Type 0} (P : A → Type 0) (xs : List A) (i : ℕ) (x : A) → All P xs → slice_get xs i ≡ Some x → P x
all_at P [] i x all at = absurd cc
all_at P (y ∷ xs) zero x all at = let e : y ≡ x = cc in subst P e (All-head P y xs all)
all_at P (y ∷ xs) (suc i) x all at = all_at P xs i x (All-tail P y xs all) at

pub all_map : {A B : Type 0} (P : B → Type 0) (f : A → B) (xs : List A) → All (λ x. P (f x)) xs → All P (map f xs)
all_map P f [] all = all_none P
all_map P f (x ∷ xs) all = All-cons P (f x) (map f xs) (All-head (λ x. P (f x)) x xs all) (all_map P f xs (All-tail (λ x. P (f x)) x xs all))

kept_all : {A : Type 0} (P : A → Type 0) (x : A) (rest : List A) (r : Bool) → (r ≡ true → P x) → All P rest → All P (cond r (x ∷ rest) rest)
kept_all P x rest true px all = All-cons P x rest (px refl) all
kept_all P x rest false px all = all

-- Of those that pass, by a fact that the test gives.
pub all_filter : {A : Type 0} (P : A → Type 0) (test : A → Bool) → ((x : A) → test x ≡ true → P x) → (xs : List A) → All P (filter test xs)
all_filter P test each [] = all_none P
all_filter P test each (x ∷ xs) = kept_all P x (filter test xs) (test x) (each x) (all_filter P test each xs)

pub all_filtered : {A : Type 0} (P : A → Type 0) (test : A → Bool) (xs : List A) → All P xs → All P (filter test xs)
all_filtered P test [] all = all_none P
all_filtered P test (x ∷ xs) all = kept_all P x (filter test xs) (test x) (λ e. All-head P x xs all) (all_filtered P test xs (All-tail P x xs all))

-- ---- mapped lists that are equal

-- What stands at a place of a list that is another one, both mapped.
pub mapped_at : {A B C : Type 0} (f : A → C) (g : B → C) (xs : List A) (ys : List B) (n : ℕ) (y : B) (d : A) → map f xs ≡ map g ys → slice_get ys n ≡ Some y → f (get_or xs n d) ≡ g y
mapped_at {A} {B} {C} f g xs ys n y d same at = by_item (slice_get xs n) refl (sym (slice_get-map f xs n) ∙ ap (λ zs. slice_get zs n) same ∙ slice_get-map g ys n ∙ ap (option_map g) at)
  where
    by_item : (o : Option A) → slice_get xs n ≡ o → option_map f o ≡ Some (g y) → f (get_or xs n d) ≡ g y
    by_item None none e = absurd cc
    by_item (Some x) is e = let eq : f x ≡ g y = cc in ap f (get_or_from_slice_get xs n x d is) ∙ eq
