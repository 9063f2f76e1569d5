-- The first that is there, in a list that is searched piece by piece.
use Rattle.std.proofs.Common.{◌≡◌, ℕ, ◌+◌, ◌<◌, Bool, true, false, cond, List, [], ◌∷◌, ◌++◌, length, get_or, drop, map, filter, slice_get, Option, Some, None, refl, sym, ap, ◌∙◌, suc, add-one, arith}
use Rattle.std.specs.List.{find, flat_map, range_with_len}
use Rattle.std.specs.Option.{option_or, option_and_then, option_flatten, is_some}
use Rattle.std.proofs.Math.Seq.{drop-cons}
use Rattle.std.proofs.lemmas.Option.{slice_get-get_or}
use Rattle.name_entries.specs.wl_base.Choice.{first_some}

first_of : {B : Type 0} (o : Option B) (os : List (Option B)) → first_some (o ∷ os) ≡ option_or o (first_some os)
first_of None os = refl
first_of (Some x) os = refl

or_assoc : {B : Type 0} (a b c : Option B) → option_or (option_or a b) c ≡ option_or a (option_or b c)
or_assoc None b c = refl
or_assoc (Some x) b c = refl

module _ {A B : Type 0} (f : A → Option B) where
  first-append : (xs ys : List A) → first_some (map f (xs ++ ys)) ≡ option_or (first_some (map f xs)) (first_some (map f ys))
  first-append [] ys = refl
  first-append (x ∷ xs) ys =
      first_of (f x) (map f (xs ++ ys)) ∙ ap (option_or (f x)) (first-append xs ys) ∙ sym (or_assoc (f x) (first_some (map f xs)) (first_some (map f ys)))
      ∙ ap (λ o. option_or o (first_some (map f ys))) (sym (first_of (f x) (map f xs)))

  -- what a filter takes away has nothing
  pub first-filter : (keep : A → Bool) → ((x : A) → keep x ≡ false → f x ≡ None) → (xs : List A) → first_some (map f (filter keep xs)) ≡ first_some (map f xs)
  first-filter keep nothing [] = refl
  first-filter keep nothing (x ∷ xs) = by (first-filter keep nothing xs) (keep x) refl
    where
      by : first_some (map f (filter keep xs)) ≡ first_some (map f xs) → (b : Bool) → keep x ≡ b
          → first_some (map f (cond b (x ∷ filter keep xs) (filter keep xs))) ≡ first_some (f x ∷ map f xs)
      by rest true kept = first_of (f x) (map f (filter keep xs)) ∙ ap (option_or (f x)) rest ∙ sym (first_of (f x) (map f xs))
      by rest false gone = rest ∙ ap (λ o. option_or o (first_some (map f xs))) (sym (nothing x gone)) ∙ sym (first_of (f x) (map f xs))

  pub first-joined : (rows : List (List A)) → first_some (map f (flat_map (λ row. row) rows)) ≡ first_some (map (λ row. first_some (map f row)) rows)
  first-joined [] = refl
  first-joined (row ∷ rows) =
      first-append row (flat_map (λ row. row) rows) ∙ ap (option_or (first_some (map f row))) (first-joined rows)
      ∙ sym (first_of (first_some (map f row)) (map (λ row. first_some (map f row)) rows))

  -- what is left of a list, from a place on
  pub rest_is : (xs : List A) (i : ℕ) (d : A) → i < length xs → first_some (map f (drop i xs)) ≡ option_or (f (get_or xs i d)) (first_some (map f (drop (i + 1) xs)))
  rest_is xs i d below = ap (λ l. first_some (map f l)) (drop-cons xs i d below ∙ ap (λ k. get_or xs i d ∷ drop k xs) (sym (add-one i))) ∙ first_of (f (get_or xs i d)) (map f (drop (i + 1) xs))

  pub rest_at : (xs : List A) (i : ℕ) → i < length xs → first_some (map f (drop i xs)) ≡ option_or (option_and_then f (slice_get xs i)) (first_some (map f (drop (i + 1) xs)))
  rest_at [] i below = absurd (omega arith)
  rest_at (x ∷ xs) i below =
      rest_is (x ∷ xs) i x below ∙ ap (λ o. option_or (option_and_then f o) (first_some (map f (drop (i + 1) (x ∷ xs))))) (sym (slice_get-get_or (x ∷ xs) i x below))

  -- nothing is left past the end
  pub rest_none : (xs : List A) (i : ℕ) → i ≡ length xs → first_some (map f (drop i xs)) ≡ None
  rest_none xs i end = ap (λ k. first_some (map f (drop k xs))) end ∙ past xs
    where
      past : (xs : List A) → first_some (map f (drop (length xs) xs)) ≡ None
      past [] = refl
      past (x ∷ xs) = past xs

-- ---- searched side by side

-- the first answer that is something
pub first_answer : {B : Type 0} (os : List (Option B)) → option_flatten (find is_some os) ≡ first_some os
first_answer [] = refl
first_answer (None ∷ os) = first_answer os
first_answer (Some x ∷ os) = refl

module _ {A B : Type 0} (f : A → Option B) (g : ℕ → A) (d : A) where
  by_place : (xs : List A) (a : ℕ) → ((i : ℕ) → i < length xs → g (a + i) ≡ get_or xs i d) → map (λ i. f (g i)) (range_with_len a (length xs)) ≡ map f xs
  by_place [] a at = refl
  by_place (x ∷ xs) a at =
      let here : g a ≡ x = ap g (omega arith) ∙ at 0 (omega arith) in
      let rest = by_place xs (a + 1) (λ i below. ap g (omega arith) ∙ at (suc i) (omega arith)) in
      (λ j. f (here j) ∷ rest j)

-- the items of a list by their places
pub by_places : {A B : Type 0} (f : A → Option B) (xs : List A) (d : A) (n : ℕ) → n ≡ length xs → map (λ i. f (get_or xs i d)) (range_with_len 0 n) ≡ map f xs
by_places f xs d n is = ap (λ k. map (λ i. f (get_or xs i d)) (range_with_len 0 k)) is ∙ by_place f (λ i. get_or xs i d) d xs 0 (λ i below. ap (λ k. get_or xs k d) (omega arith))
