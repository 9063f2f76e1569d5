-- Lists that go side by side.
use Rattle.std.proofs.Common.{◌≡◌, suc, Bool, true, false, ◌||◌, cond, List, [], ◌∷◌, ◌++◌, map, filter, length, inl, inr, refl, ap, subst, ◌∙◌}
use Rattle.std.specs.Prelude.{Option, Some, None, option_map, filter_map, flat_map}
use Rattle.std.specs.List.{list_any, AllZip, cons_option}
use Rattle.std.proofs.lemmas.List.Concat.{flat_map-cons}
use Rattle.std.proofs.lemmas.List.Folds.{list_any-append}
use Rattle.list_places.specs.Has.{Has}

pub any_in_flat : {A C : Type 0} (t : C → Bool) (f : A → List C) (xs : List A) → list_any t (flat_map f xs) ≡ list_any (λ x. list_any t (f x)) xs
any_in_flat t f [] = refl
any_in_flat t f (x ∷ xs) = ap (list_any t) (flat_map-cons f x xs) ∙ (list_any-append t (f x) (flat_map f xs) ∙ ap (λ (b : Bool). list_any t (f x) || b) (any_in_flat t f xs))

module _ {A B : Type 0} (R : A → B → Type 0) where
  pub zip_filter : (t : A → Bool) (u : B → Bool) → ((x : A) (y : B) → R x y → u y ≡ t x) → (xs : List A) (ys : List B) → AllZip R xs ys → AllZip R (filter t xs) (filter u ys)
  zip_filter t u same [] [] z = tt
  zip_filter t u same [] (y ∷ ys) z = absurd z
  zip_filter t u same (x ∷ xs) [] z = absurd z
  zip_filter t u same (x ∷ xs) (y ∷ ys) z = rw (same x y z.0) (by_test (t x) (zip_filter t u same xs ys z.1))
    where
      by_test : (r : Bool) → AllZip R (filter t xs) (filter u ys) → AllZip R (cond r (x ∷ filter t xs) (filter t xs)) (cond r (y ∷ filter u ys) (filter u ys))
      by_test true rest = (z.0, rest)
      by_test false rest = rest

  pub zip_filter_map : {C D : Type 0} (h : C → D) (f : A → Option C) (g : B → Option D) → ((x : A) (y : B) → R x y → g y ≡ option_map h (f x)) → (xs : List A) (ys : List B) → AllZip R xs ys
      → filter_map g ys ≡ map h (filter_map f xs)
  zip_filter_map h f g same [] [] z = refl
  zip_filter_map h f g same [] (y ∷ ys) z = absurd z
  zip_filter_map h f g same (x ∷ xs) [] z = absurd z
  zip_filter_map {C} {D} h f g same (x ∷ xs) (y ∷ ys) z = rw (same x y z.0) (by_head (f x) (zip_filter_map h f g same xs ys z.1))
    where
      by_head : (o : Option C) → filter_map g ys ≡ map h (filter_map f xs) → cons_option (option_map h o) (filter_map g ys) ≡ map h (cons_option o (filter_map f xs))
      by_head None rest = rest
      by_head (Some c) rest = ap (λ ds. h c ∷ ds) rest

  pub zip_length : (xs : List A) (ys : List B) → AllZip R xs ys → length ys ≡ length xs
  zip_length [] [] z = refl
  zip_length [] (y ∷ ys) z = absurd z
  zip_length (x ∷ xs) [] z = absurd z
  zip_length (x ∷ xs) (y ∷ ys) z = ap suc (zip_length xs ys z.1)

  pub zip_append : (xs us : List A) (ys vs : List B) → AllZip R xs ys → AllZip R us vs → AllZip R (xs ++ us) (ys ++ vs)
  zip_append [] us [] vs z w = w
  zip_append [] us (y ∷ ys) vs z w = absurd z
  zip_append (x ∷ xs) us [] vs z w = absurd z
  zip_append (x ∷ xs) us (y ∷ ys) vs z w = (z.0, zip_append xs us ys vs z.1 w)

  pub zip_partner : (xs : List A) (ys : List B) → AllZip R xs ys → (y : B) → Has ys y → (x : A) × Has xs x × R x y
  zip_partner [] [] z y has = absurd has
  zip_partner [] (b ∷ ys) z y has = absurd z
  zip_partner (a ∷ xs) [] z y has = absurd z
  zip_partner (a ∷ xs) (b ∷ ys) z y (inl is) = (a, inl refl, subst (R a) is z.0)
  zip_partner (a ∷ xs) (b ∷ ys) z y (inr has) = let r = zip_partner xs ys z.1 y has in (r.0, inr r.1, r.2)

  pub zip_mapped : {C D : Type 0} (Q : C → D → Type 0) (f : A → C) (g : B → D) → ((x : A) (y : B) → R x y → Q (f x) (g y)) → (xs : List A) (ys : List B) → AllZip R xs ys → AllZip Q (map f xs) (map g ys)
  zip_mapped Q f g each [] [] z = tt
  zip_mapped Q f g each [] (y ∷ ys) z = absurd z
  zip_mapped Q f g each (x ∷ xs) [] z = absurd z
  zip_mapped Q f g each (x ∷ xs) (y ∷ ys) z = (each x y z.0, zip_mapped Q f g each xs ys z.1)

  pub zip_add : (Q : A → B → Type 0) (xs : List A) (ys : List B) → ((x : A) (y : B) → Has xs x → R x y → Q x y) → AllZip R xs ys → AllZip Q xs ys
  zip_add Q [] [] each z = tt
  zip_add Q [] (y ∷ ys) each z = absurd z
  zip_add Q (x ∷ xs) [] each z = absurd z
  zip_add Q (x ∷ xs) (y ∷ ys) each z = (each x y (inl refl) z.0, zip_add Q xs ys (λ a b has. each a b (inr has)) z.1)
