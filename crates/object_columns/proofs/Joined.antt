-- Columns that are joined: one record more, and the record at a place.
use Rattle.std.proofs.Common.{◌≡◌, ℕ, zero, suc, ◌∙◌, List, [], ◌∷◌, ◌++◌, length, Some, None, refl, ap, arith}
use Rattle.std.specs.Prelude.{slice_get}
use Rattle.object_columns.specs.Columns.{joined, joined_three}

pub joined_length : {A B C : Type 0} (f : A → B → C) (xs : List A) (ys : List B) → length xs ≡ length ys → length (joined f xs ys) ≡ length xs
joined_length f [] ys e = refl
joined_length f (a ∷ xs) [] e = absurd (omega (arith, e))
joined_length f (a ∷ xs) (b ∷ ys) e = ap suc (joined_length f xs ys (omega (arith, e)))

pub joined_more : {A B C : Type 0} (f : A → B → C) (xs : List A) (ys : List B) (a : A) (b : B) → length xs ≡ length ys → joined f (xs ++ a ∷ []) (ys ++ b ∷ []) ≡ joined f xs ys ++ f a b ∷ []
joined_more f [] [] a b e = refl
joined_more f [] (y ∷ ys) a b e = absurd (omega (arith, e))
joined_more f (x ∷ xs) [] a b e = absurd (omega (arith, e))
joined_more f (x ∷ xs) (y ∷ ys) a b e = ap (λ zs. f x y ∷ zs) (joined_more f xs ys a b (omega (arith, e)))

pub joined_at : {A B C : Type 0} (f : A → B → C) (xs : List A) (ys : List B) (k : ℕ) (a : A) (b : B) → slice_get xs k ≡ Some a → slice_get ys k ≡ Some b → slice_get (joined f xs ys) k ≡ Some (f a b)
joined_at f [] ys k a b here beside = absurd cc
joined_at f (x ∷ xs) [] k a b here beside = absurd cc
joined_at f (x ∷ xs) (y ∷ ys) zero a b here beside = cc
joined_at f (x ∷ xs) (y ∷ ys) (suc k) a b here beside = joined_at f xs ys k a b here beside

pub none_of_first : {A B C : Type 0} (f : A → B → C) (xs : List A) (ys : List B) (k : ℕ) → slice_get xs k ≡ None → slice_get (joined f xs ys) k ≡ None
none_of_first f [] ys k none = refl
none_of_first f (x ∷ xs) [] k none = refl
none_of_first f (x ∷ xs) (y ∷ ys) zero none = absurd cc
none_of_first f (x ∷ xs) (y ∷ ys) (suc k) none = none_of_first f xs ys k none

pub none_of_second : {A B C : Type 0} (f : A → B → C) (xs : List A) (ys : List B) (k : ℕ) → slice_get ys k ≡ None → slice_get (joined f xs ys) k ≡ None
none_of_second f [] ys k none = refl
none_of_second f (x ∷ xs) [] k none = refl
none_of_second f (x ∷ xs) (y ∷ ys) zero none = absurd cc
none_of_second f (x ∷ xs) (y ∷ ys) (suc k) none = none_of_second f xs ys k none

-- ---- three columns

pub three_more : {A B C D : Type 0} (f : A → B → C → D) (xs : List A) (ys : List B) (zs : List C) (a : A) (b : B) (c : C) → length xs ≡ length ys → length xs ≡ length zs
    → joined_three f (xs ++ a ∷ []) (ys ++ b ∷ []) (zs ++ c ∷ []) ≡ joined_three f xs ys zs ++ f a b c ∷ []
three_more f xs ys zs a b c second third =
    ap (λ gs. joined (λ g c. g c) gs (zs ++ c ∷ [])) (joined_more f xs ys a b second)
    ∙ joined_more (λ g c. g c) (joined f xs ys) zs (f a b) c (joined_length f xs ys second ∙ third)

pub three_length : {A B C D : Type 0} (f : A → B → C → D) (xs : List A) (ys : List B) (zs : List C) → length xs ≡ length ys → length xs ≡ length zs → length (joined_three f xs ys zs) ≡ length xs
three_length f xs ys zs second third =
    let two = joined_length f xs ys second in
    joined_length (λ g c. g c) (joined f xs ys) zs (two ∙ third) ∙ two

pub three_at : {A B C D : Type 0} (f : A → B → C → D) (xs : List A) (ys : List B) (zs : List C) (k : ℕ) (a : A) (b : B) (c : C) → slice_get xs k ≡ Some a → slice_get ys k ≡ Some b → slice_get zs k ≡ Some c
    → slice_get (joined_three f xs ys zs) k ≡ Some (f a b c)
three_at f xs ys zs k a b c first second third = joined_at (λ g c. g c) (joined f xs ys) zs k (f a b) c (joined_at f xs ys k a b first second) third

pub three_none_first : {A B C D : Type 0} (f : A → B → C → D) (xs : List A) (ys : List B) (zs : List C) (k : ℕ) → slice_get xs k ≡ None → slice_get (joined_three f xs ys zs) k ≡ None
three_none_first f xs ys zs k none = none_of_first (λ g c. g c) (joined f xs ys) zs k (none_of_first f xs ys k none)

pub three_none_second : {A B C D : Type 0} (f : A → B → C → D) (xs : List A) (ys : List B) (zs : List C) (k : ℕ) → slice_get ys k ≡ None → slice_get (joined_three f xs ys zs) k ≡ None
three_none_second f xs ys zs k none = none_of_first (λ g c. g c) (joined f xs ys) zs k (none_of_second f xs ys k none)

pub three_none_third : {A B C D : Type 0} (f : A → B → C → D) (xs : List A) (ys : List B) (zs : List C) (k : ℕ) → slice_get zs k ≡ None → slice_get (joined_three f xs ys zs) k ≡ None
three_none_third f xs ys zs k none = none_of_second (λ g c. g c) (joined f xs ys) zs k none
