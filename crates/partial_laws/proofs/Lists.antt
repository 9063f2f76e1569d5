-- Lists of which some items are kept and moved.
use Rattle.std.proofs.Common.{◌≡◌, Bool, true, false, ◌||◌, ◌&&◌, cond, List, [], ◌∷◌, map, filter, refl, ap, ◌∙◌, arith}
use Rattle.std.specs.Prelude.{All}
use Rattle.std.specs.List.{list_any}
use Rattle.std.proofs.lemmas.List.Elements.{All-head, All-tail, All-cons}

-- ---- what is asked of each item

pub none_asked : {A : Type 0} (P : A → Type 0) → All P []
none_asked P = λ k d below. absurd (omega (arith, below))

pub filter_all : {A : Type 0} (P : A → Type 0) (t : A → Bool) (xs : List A) → All P xs → All P (filter t xs)
filter_all P t [] all = all
filter_all {A} P t (x ∷ xs) all = by_test (t x) (filter_all P t xs (All-tail P x xs all))
  where
    by_test : (r : Bool) → All P (filter t xs) → All P (cond r (x ∷ filter t xs) (filter t xs))
    by_test true rest = All-cons P x (filter t xs) (All-head P x xs all) rest
    by_test false rest = rest

-- The items that pass are asked that they do.
pub filter_kept : {A : Type 0} (P Q : A → Type 0) (t : A → Bool) → ((x : A) → P x → t x ≡ true → Q x) → (xs : List A) → All P xs → All Q (filter t xs)
filter_kept P Q t each [] all = none_asked Q
filter_kept {A} P Q t each (x ∷ xs) all = by_test (t x) refl (filter_kept P Q t each xs (All-tail P x xs all))
  where
    by_test : (r : Bool) → t x ≡ r → All Q (filter t xs) → All Q (cond r (x ∷ filter t xs) (filter t xs))
    by_test true is rest = All-cons Q x (filter t xs) (each x (All-head P x xs all) is) rest
    by_test false is rest = rest

pub all_map : {A : Type 0} (P Q : A → Type 0) → ((x : A) → P x → Q x) → (xs : List A) → All P xs → All Q xs
all_map P Q each [] all = none_asked Q
all_map P Q each (x ∷ xs) all = All-cons Q x xs (each x (All-head P x xs all)) (all_map P Q each xs (All-tail P x xs all))

pub both_all : {A : Type 0} (P Q : A → Type 0) (xs : List A) → All P xs → All Q xs → All (λ x. P x × Q x) xs
both_all P Q [] all too = none_asked (λ x. P x × Q x)
both_all P Q (x ∷ xs) all too =
    All-cons (λ x. P x × Q x) x xs (All-head P x xs all, All-head Q x xs too) (both_all P Q xs (All-tail P x xs all) (All-tail Q x xs too))

-- ---- filters

pub filter_of_map : {A B : Type 0} (f : A → B) (u : B → Bool) (xs : List A) → filter u (map f xs) ≡ map f (filter (λ x. u (f x)) xs)
filter_of_map f u [] = refl
filter_of_map {A} f u (x ∷ xs) = ap (λ ys. cond (u (f x)) (f x ∷ ys) ys) (filter_of_map f u xs) ∙ by_test (u (f x))
  where
    by_test : (r : Bool) → cond r (f x ∷ map f (filter (λ y. u (f y)) xs)) (map f (filter (λ y. u (f y)) xs)) ≡ map f (cond r (x ∷ filter (λ y. u (f y)) xs) (filter (λ y. u (f y)) xs))
    by_test true = refl
    by_test false = refl

pub filter_twice : {A : Type 0} (t u : A → Bool) (xs : List A) → filter t (filter u xs) ≡ filter (λ x. u x && t x) xs
filter_twice t u [] = refl
filter_twice {A} t u (x ∷ xs) = by_test (u x) (filter_twice t u xs)
  where
    by_test : (r : Bool) → filter t (filter u xs) ≡ filter (λ y. u y && t y) xs → filter t (cond r (x ∷ filter u xs) (filter u xs)) ≡ cond (r && t x) (x ∷ filter (λ y. u y && t y) xs) (filter (λ y. u y && t y) xs)
    by_test true rest = ap (λ ys. cond (t x) (x ∷ ys) ys) rest
    by_test false rest = rest

pub filter_where : {A : Type 0} (t u : A → Bool) (P : A → Type 0) → ((x : A) → P x → t x ≡ u x) → (xs : List A) → All P xs → filter t xs ≡ filter u xs
filter_where t u P same [] all = refl
filter_where t u P same (x ∷ xs) all = rw (same x (All-head P x xs all), filter_where t u P same xs (All-tail P x xs all)) refl

pub any_where : {A : Type 0} (t u : A → Bool) (P : A → Type 0) → ((x : A) → P x → t x ≡ u x) → (xs : List A) → All P xs → list_any t xs ≡ list_any u xs
any_where t u P same [] all = refl
any_where t u P same (x ∷ xs) all = rw (same x (All-head P x xs all), any_where t u P same xs (All-tail P x xs all)) refl

pub any_of_map : {A B : Type 0} (f : A → B) (u : B → Bool) (xs : List A) → list_any u (map f xs) ≡ list_any (λ x. u (f x)) xs
any_of_map f u [] = refl
any_of_map f u (x ∷ xs) = ap (λ b. u (f x) || b) (any_of_map f u xs)
