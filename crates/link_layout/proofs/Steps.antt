-- Steps of loops.
use Rattle.std.proofs.Common.{◌≡◌, ℕ, zero, suc, ◌+◌, ◌<◌, ◌≤◌, ◌^◌, true, List, [], ◌∷◌, length, get_or, set, drop, slice_get, Some, None, All, refl, sym, ap, ◌∙◌, arith, nat_lt}
use Rattle.std.specs.List.{list_all}
use Rattle.std.proofs.lemmas.Bool.{ltb-true}
use Rattle.std.proofs.lemmas.List.Sums.{AllPass-from_list_all}
use Rattle.link_program.specs.Moved.{moved_windows}
use Rattle.link_layout.specs.Segments.{set_each}

pub drop_at : {A : Type 0} (xs : List A) (i : ℕ) (x : A) → slice_get xs i ≡ Some x → drop i xs ≡ x ∷ drop (i + 1) xs
drop_at [] i x at = absurd cc
drop_at (y ∷ xs) zero x at = let same : y ≡ x = cc in ap (λ v. v ∷ xs) same
drop_at (y ∷ xs) (suc i) x at =
    let e : suc i + 1 ≡ suc (i + 1) = omega arith in
    drop_at xs i x at ∙ ap (λ n. x ∷ drop n (y ∷ xs)) (sym e)

pub drop_none : {A : Type 0} (xs : List A) (i : ℕ) → slice_get xs i ≡ None → drop i xs ≡ []
drop_none [] zero at = refl
drop_none [] (suc i) at = refl
drop_none (y ∷ xs) zero at = absurd cc
drop_none (y ∷ xs) (suc i) at = drop_none xs i at

none_dropped : {A : Type 0} (n : ℕ) → drop {A = A} n [] ≡ []
none_dropped zero = refl
none_dropped (suc n) = refl

pub drop_past : {A : Type 0} (xs : List A) (i : ℕ) → slice_get xs i ≡ None → drop (i + 1) xs ≡ []
drop_past [] i at = none_dropped (i + 1)
drop_past (y ∷ xs) zero at = absurd cc
drop_past (y ∷ xs) (suc i) at = let e : suc i + 1 ≡ suc (i + 1) = omega arith in ap (λ n. drop n (y ∷ xs)) e ∙ drop_past xs i at

-- ---- columns

pub set_step : {A : Type 0} (ns : List ℕ) (xs column all : List A) (i n : ℕ) (x : A) → slice_get ns i ≡ Some n → slice_get xs i ≡ Some x
    → set_each (drop i ns) (drop i xs) column ≡ all → set_each (drop (i + 1) ns) (drop (i + 1) xs) (set column n x) ≡ all
set_step ns xs column all i n x at_n at_x rest = sym ((λ j. set_each (drop_at ns i n at_n j) (drop_at xs i x at_x j) column)) ∙ rest

none_set : {A : Type 0} (ns : List ℕ) (column : List A) → set_each ns [] column ≡ column
none_set [] column = refl
none_set (n ∷ ns) column = refl

pub set_past : {A : Type 0} (ns : List ℕ) (xs column all : List A) (i : ℕ) → slice_get xs i ≡ None
    → set_each (drop i ns) (drop i xs) column ≡ all → set_each (drop (i + 1) ns) (drop (i + 1) xs) column ≡ all
set_past ns xs column all i at rest =
    ap (λ ys. set_each (drop (i + 1) ns) ys column) (drop_past xs i at) ∙ none_set (drop (i + 1) ns) column
    ∙ sym (none_set (drop i ns) column) ∙ ap (λ ys. set_each (drop i ns) ys column) (sym (drop_none xs i at)) ∙ rest

-- ---- lists

pub none_moved : (places : List ℕ) → moved_windows places [] ≡ []
none_moved [] = refl
none_moved (k ∷ ks) = refl

pub no_more : {A : Type 0} (xs : List A) (i : ℕ) → length xs ≤ i → drop i xs ≡ []
no_more [] zero le = refl
no_more [] (suc i) le = refl
no_more (x ∷ xs) zero le = absurd (omega arith)
no_more (x ∷ xs) (suc i) le = no_more xs i (omega arith)

pub all_small : (ts : List ℕ) → list_all (λ t. nat_lt t (2 ^ 33)) ts ≡ true → All (λ t. t < 2 ^ 33) ts
all_small ts h k d below = ltb-true (get_or ts k d) (2 ^ 33) (AllPass-from_list_all (λ t. nat_lt t (2 ^ 33)) ts h k d below)
