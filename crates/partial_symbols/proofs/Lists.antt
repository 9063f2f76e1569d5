-- Lists that are mapped, filtered and asked.
use Rattle.std.proofs.Common.{◌≡◌, suc, ◌==◌, Bool, true, false, not, ◌&&◌, ◌||◌, List, [], ◌∷◌, ◌++◌, map, filter, flat_map, find, fold, length, Option, Some, None, option_map, refl, sym, ap, ◌∙◌, arith, ne_eqb}
use Rattle.std.specs.Prelude.{cond}
use Rattle.std.specs.Option.{option_or}
use Rattle.std.specs.List.{list_any, AllByRecursion}
use Rattle.std.proofs.lemmas.List.Folds.{list_any-append}

module _ {S A : Type 0} (f : S → A) (test : A → Bool) (told : S → Bool) where
  abbrev pub Agree : List S → Type 0
  Agree ss = AllByRecursion (λ s. test (f s) ≡ told s) ss

  pub found_told : {X : Type 0} (v : A → X) (w : S → X) → ((s : S) → v (f s) ≡ w s) → (ss : List S) → Agree ss → option_map v (find test (map f ss)) ≡ option_map w (find told ss)
  found_told v w same [] agree = refl
  found_told {X} v w same (s ∷ ss) agree = by (test (f s)) (told s) agree.0 (found_told v w same ss agree.1)
    where
      by : (a b : Bool) → a ≡ b → option_map v (find test (map f ss)) ≡ option_map w (find told ss)
          → option_map v (cond a (Some (f s)) (find test (map f ss))) ≡ option_map w (cond b (Some s) (find told ss))
      by true true is rest = ap (λ (x : X). Some x) (same s)
      by false false is rest = rest
      by true false is rest = absurd cc
      by false true is rest = absurd cc

  pub any_told : (ss : List S) → Agree ss → list_any test (map f ss) ≡ list_any told ss
  any_told [] agree = refl
  any_told (s ∷ ss) agree = let h = agree.0 in let t = any_told ss agree.1 in λ i. h i || t i

  pub kept_told : {X : Type 0} (v : A → X) (w : S → X) → ((s : S) → v (f s) ≡ w s) → (ss : List S) → Agree ss → map v (filter test (map f ss)) ≡ map w (filter told ss)
  kept_told v w same [] agree = refl
  kept_told {X} v w same (s ∷ ss) agree = by (test (f s)) (told s) agree.0 (kept_told v w same ss agree.1)
    where
      by : (a b : Bool) → a ≡ b → map v (filter test (map f ss)) ≡ map w (filter told ss)
          → map v (cond a (f s ∷ filter test (map f ss)) (filter test (map f ss))) ≡ map w (cond b (s ∷ filter told ss) (filter told ss))
      by true true is rest = let h = same s in λ i. h i ∷ rest i
      by false false is rest = rest
      by true false is rest = absurd cc
      by false true is rest = absurd cc

pub all_agree : {S : Type 0} (P : S → Type 0) → ((s : S) → P s) → (ss : List S) → AllByRecursion P ss
all_agree P each [] = tt
all_agree P each (s ∷ ss) = (each s, all_agree P each ss)

pub all_from : {S : Type 0} (P Q : S → Type 0) → ((s : S) → P s → Q s) → (ss : List S) → AllByRecursion P ss → AllByRecursion Q ss
all_from P Q each [] all = tt
all_from P Q each (s ∷ ss) all = (each s all.0, all_from P Q each ss all.1)

pub all_both : {S : Type 0} (P : S → Type 0) (xs ys : List S) → AllByRecursion P xs → AllByRecursion P ys → AllByRecursion P (xs ++ ys)
all_both P [] ys a b = b
all_both P (x ∷ xs) ys a b = (a.0, all_both P xs ys a.1 b)

module _ {A : Type 0} where
  pub find_filter : (p q : A → Bool) (xs : List A) → find p (filter q xs) ≡ find (λ x. q x && p x) xs
  find_filter p q [] = refl
  find_filter p q (x ∷ xs) = by (q x) (find_filter p q xs)
    where
      by : (b : Bool) → find p (filter q xs) ≡ find (λ x. q x && p x) xs → find p (cond b (x ∷ filter q xs) (filter q xs)) ≡ cond (b && p x) (Some x) (find (λ x. q x && p x) xs)
      by true rest = ap (cond (p x) (Some x)) rest
      by false rest = rest

  pub any_filter : (p q : A → Bool) (xs : List A) → list_any p (filter q xs) ≡ list_any (λ x. q x && p x) xs
  any_filter p q [] = refl
  any_filter p q (x ∷ xs) = by (q x) (any_filter p q xs)
    where
      by : (b : Bool) → list_any p (filter q xs) ≡ list_any (λ x. q x && p x) xs → list_any p (cond b (x ∷ filter q xs) (filter q xs)) ≡ ((b && p x) || list_any (λ x. q x && p x) xs)
      by true rest = ap (λ r. p x || r) rest
      by false rest = rest

  pub find_agree : (p q : A → Bool) (xs : List A) → AllByRecursion (λ x. p x ≡ q x) xs → find p xs ≡ find q xs
  find_agree p q [] agree = refl
  find_agree p q (x ∷ xs) agree = let h = agree.0 in let t = find_agree p q xs agree.1 in λ i. cond (h i) (Some x) (t i)

  pub any_agree : (p q : A → Bool) (xs : List A) → AllByRecursion (λ x. p x ≡ q x) xs → list_any p xs ≡ list_any q xs
  any_agree p q [] agree = refl
  any_agree p q (x ∷ xs) agree = let h = agree.0 in let t = any_agree p q xs agree.1 in λ i. h i || t i

  pub find_none : (p : A → Bool) (xs : List A) → AllByRecursion (λ x. p x ≡ false) xs → find p xs ≡ None
  find_none p [] none = refl
  find_none p (x ∷ xs) none = let h = none.0 in let t = find_none p xs none.1 in λ i. cond (h i) (Some x) (t i)

  -- whether a filter keeps anything
  pub some_kept : (p : A → Bool) (xs : List A) → list_any p xs ≡ not (length (filter p xs) == 0)
  some_kept p [] = refl
  some_kept p (x ∷ xs) = by (p x) (some_kept p xs)
    where
      by : (b : Bool) → list_any p xs ≡ not (length (filter p xs) == 0) → (b || list_any p xs) ≡ not (length (cond b (x ∷ filter p xs) (filter p xs)) == 0)
      by true rest = sym (ap not (ne_eqb (suc (length (filter p xs))) 0 (λ e. omega (arith, e))))
      by false rest = rest

  pub fold_rows : {C : Type 0} (g : C → A → C) (c : C) (rows : List (List A)) → fold (fold g) c rows ≡ fold g c (flat_map (λ r. r) rows)
  fold_rows g c [] = refl
  fold_rows g c (r ∷ rows) = fold_rows g (fold g c r) rows ∙ sym (both g c r (flat_map (λ r. r) rows))
    where
      both : {C : Type 0} (g : C → A → C) (c : C) (xs ys : List A) → fold g c (xs ++ ys) ≡ fold g (fold g c xs) ys
      both g c [] ys = refl
      both g c (x ∷ xs) ys = both g (g c x) xs ys

  pub any_flat : {B : Type 0} (p : B → Bool) (f : A → List B) (xs : List A) → list_any p (flat_map f xs) ≡ list_any (λ x. list_any p (f x)) xs
  any_flat p f [] = refl
  any_flat p f (x ∷ xs) = list_any-append p (f x) (flat_map f xs) ∙ ap (λ b. list_any p (f x) || b) (any_flat p f xs)

  pub any_map : {B : Type 0} (p : B → Bool) (f : A → B) (xs : List A) → list_any p (map f xs) ≡ list_any (λ x. p (f x)) xs
  any_map p f [] = refl
  any_map p f (x ∷ xs) = ap (λ b. p (f x) || b) (any_map p f xs)

pub and_true : (b : Bool) → (b && true) ≡ b
and_true true = refl
and_true false = refl

pub and_assoc : (a b c : Bool) → (a && (b && c)) ≡ ((a && b) && c)
and_assoc true b c = refl
and_assoc false b c = refl

pub map_or : {A B : Type 0} (f : A → B) (a b : Option A) → option_map f (option_or a b) ≡ option_or (option_map f a) (option_map f b)
map_or f None b = refl
map_or f (Some a) b = refl

pub map_twice : {A B C : Type 0} (g : B → C) (f : A → B) (o : Option A) → option_map g (option_map f o) ≡ option_map (λ x. g (f x)) o
map_twice g f None = refl
map_twice g f (Some a) = refl
