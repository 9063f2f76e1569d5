-- Members of lists.
use Rattle.std.proofs.Common.{◌≡◌, ℕ, zero, suc, ◌<◌, Bool, true, false, cond, List, [], ◌∷◌, ◌++◌, length, get_or, map, filter, filter_map, flat_map, slice_get, Option, Some, None, refl, sym, ap, ◌∙◌, subst, arith, inl, inr, ◌⊎◌, Contains, find}
use Rattle.std.specs.List.{list_any, AllByRecursion, cons_option}
use Rattle.std.proofs.lemmas.Bool.{or_cases, or_left, or_right}
use Rattle.std.proofs.lemmas.Option.{same_Some, none-some}

abbrev pub In : {A : Type 0} → A → List A → Type 0
In x [] = ⊥
In x (y ∷ ys) = (y ≡ x) ⊎ In x ys

true_false : true ≡ false → ⊥
true_false h = cc

module _ {A : Type 0} where
  pub in_left : (x : A) (xs ys : List A) → In x xs → In x (xs ++ ys)
  in_left x [] ys h = absurd h
  in_left x (y ∷ xs) ys (inl e) = inl e
  in_left x (y ∷ xs) ys (inr h) = inr (in_left x xs ys h)

  pub in_right : (x : A) (xs ys : List A) → In x ys → In x (xs ++ ys)
  in_right x [] ys h = h
  in_right x (y ∷ xs) ys h = inr (in_right x xs ys h)

  pub in_at : (xs : List A) (k : ℕ) (x : A) → slice_get xs k ≡ Some x → In x xs
  in_at [] k x h = absurd (none-some x h)
  in_at (y ∷ xs) zero x h = inl (same_Some y x h)
  in_at (y ∷ xs) (suc k) x h = inr (in_at xs k x h)

  in_filter_by : (q : A → Bool) (x y : A) (xs : List A) (b : Bool) → q y ≡ b → q x ≡ true → (y ≡ x) ⊎ In x (filter q xs) → In x (cond b (y ∷ filter q xs) (filter q xs))
  in_filter_by q x y xs true is t (inl e) = inl e
  in_filter_by q x y xs true is t (inr h) = inr h
  in_filter_by q x y xs false is t (inl e) = absurd (true_false (sym t ∙ ap q (sym e) ∙ is))
  in_filter_by q x y xs false is t (inr h) = h

  pub in_filter : (q : A → Bool) (x : A) (xs : List A) → In x xs → q x ≡ true → In x (filter q xs)
  in_filter q x [] h t = absurd h
  in_filter q x (y ∷ xs) (inl e) t = in_filter_by q x y xs (q y) refl t (inl e)
  in_filter q x (y ∷ xs) (inr h) t = in_filter_by q x y xs (q y) refl t (inr (in_filter q x xs h t))

  from_filter_by : (q : A → Bool) (x y : A) (xs : List A) → (In x (filter q xs) → In x xs × (q x ≡ true)) → (b : Bool) → q y ≡ b → In x (cond b (y ∷ filter q xs) (filter q xs)) → In x (y ∷ xs) × (q x ≡ true)
  from_filter_by q x y xs again true is (inl e) = (inl e, ap q (sym e) ∙ is)
  from_filter_by q x y xs again true is (inr k) = let r = again k in (inr r.0, r.1)
  from_filter_by q x y xs again false is k = let r = again k in (inr r.0, r.1)

  pub from_filter : (q : A → Bool) (x : A) (xs : List A) → In x (filter q xs) → In x xs × (q x ≡ true)
  from_filter q x [] h = absurd h
  from_filter q x (y ∷ xs) h = from_filter_by q x y xs (from_filter q x xs) (q y) refl h

  pub any_in : (q : A → Bool) (xs : List A) → list_any q xs ≡ true → (x : A) × In x xs × (q x ≡ true)
  any_in q [] h = absurd (true_false (sym h))
  any_in q (y ∷ xs) h = elim (or_cases (q y) (list_any q xs) h) as (λ _. (x : A) × In x (y ∷ xs) × (q x ≡ true)) [
    | inl t ↦ (y, inl refl, t)
    | inr t ↦ let r = any_in q xs t in (r.0, inr r.1, r.2)
  ]

  pub in_any : (q : A → Bool) (x : A) (xs : List A) → In x xs → q x ≡ true → list_any q xs ≡ true
  in_any q x [] h t = absurd h
  in_any q x (y ∷ xs) (inl e) t = or_left (q y) (list_any q xs) (ap q e ∙ t)
  in_any q x (y ∷ xs) (inr h) t = or_right (q y) (list_any q xs) (in_any q x xs h t)

  pub in_contained : (x : A) (xs : List A) → Contains xs x → In x xs
  in_contained x xs h = by xs h.0 h.1 h.2
    where
      by : (xs : List A) (k : ℕ) → k < length xs → get_or xs k x ≡ x → In x xs
      by [] k lt is = absurd (omega arith)
      by (y ∷ xs) zero lt is = inl is
      by (y ∷ xs) (suc k) lt is = inr (by xs k (omega arith) is)

  -- ---- what holds of all

  pub all_in : (P : A → Type 0) (x : A) (xs : List A) → AllByRecursion P xs → In x xs → P x
  all_in P x [] all h = absurd h
  all_in P x (y ∷ xs) all (inl e) = subst P e all.0
  all_in P x (y ∷ xs) all (inr h) = all_in P x xs all.1 h

  pub all_from : (P : A → Type 0) (xs : List A) → ((x : A) → In x xs → P x) → AllByRecursion P xs
  all_from P [] f = tt
  all_from P (x ∷ xs) f = (f x (inl refl), all_from P xs (λ y h. f y (inr h)))

  pub all_both : (P : A → Type 0) (xs ys : List A) → AllByRecursion P xs → AllByRecursion P ys → AllByRecursion P (xs ++ ys)
  all_both P [] ys hs ks = ks
  all_both P (x ∷ xs) ys hs ks = (hs.0, all_both P xs ys hs.1 ks)

  pub all_kept : (P : A → Type 0) (q : A → Bool) (xs : List A) → AllByRecursion P xs → AllByRecursion P (filter q xs)
  all_kept P q xs all = all_from P (filter q xs) (λ x h. all_in P x xs all (from_filter q x xs h).0)

  found_by : (P : A → Type 0) (q : A → Bool) (y : A) (xs : List A) (x : A) → P y → (find q xs ≡ Some x → P x × (q x ≡ true)) → (b : Bool) → q y ≡ b → cond b (Some y) (find q xs) ≡ Some x → P x × (q x ≡ true)
  found_by P q y xs x h again true is e = let same = same_Some y x e in (subst P same h, ap q (sym same) ∙ is)
  found_by P q y xs x h again false is e = again e

  pub found_has : (P : A → Type 0) (q : A → Bool) (xs : List A) (x : A) → AllByRecursion P xs → find q xs ≡ Some x → P x × (q x ≡ true)
  found_has P q [] x all h = absurd (none-some x h)
  found_has P q (y ∷ xs) x all h = found_by P q y xs x all.0 (found_has P q xs x all.1) (q y) refl h

abbrev pub OfOption : {B : Type 0} → (B → Type 0) → Option B → Type 0
OfOption P None = Unit {0}
OfOption P (Some y) = P y

filter_map_by : {B : Type 0} (P : B → Type 0) (o : Option B) (ys : List B) → OfOption P o → AllByRecursion P ys → AllByRecursion P (cons_option o ys)
filter_map_by P None ys h all = all
filter_map_by P (Some y) ys h all = (h, all)

module _ {A B : Type 0} where
  pub all_map : (P : B → Type 0) (f : A → B) (xs : List A) → AllByRecursion (λ x. P (f x)) xs → AllByRecursion P (map f xs)
  all_map P f [] all = tt
  all_map P f (x ∷ xs) all = (all.0, all_map P f xs all.1)

  pub all_flat : (P : B → Type 0) (f : A → List B) (xs : List A) → AllByRecursion (λ x. AllByRecursion P (f x)) xs → AllByRecursion P (flat_map f xs)
  all_flat P f [] all = tt
  all_flat P f (x ∷ xs) all = all_both P (f x) (flat_map f xs) all.0 (all_flat P f xs all.1)

  pub all_filter_map : (P : B → Type 0) (f : A → Option B) (xs : List A) → AllByRecursion (λ x. OfOption P (f x)) xs → AllByRecursion P (filter_map f xs)
  all_filter_map P f [] all = tt
  all_filter_map P f (x ∷ xs) all = filter_map_by P (f x) (filter_map f xs) all.0 (all_filter_map P f xs all.1)

  pub in_flat : (f : A → List B) (x : A) (y : B) (xs : List A) → In x xs → In y (f x) → In y (flat_map f xs)
  in_flat f x y [] h k = absurd h
  in_flat f x y (z ∷ xs) (inl e) k = in_left y (f z) (flat_map f xs) (subst (λ w. In y (f w)) (sym e) k)
  in_flat f x y (z ∷ xs) (inr h) k = in_right y (f z) (flat_map f xs) (in_flat f x y xs h k)
