-- Lists that are mapped, filtered and looked up.
use Rattle.std.proofs.Common.{◌≡◌, ℕ, zero, suc, Bool, true, false, cond, List, [], ◌∷◌, length, get_or, map, filter, filter_map, Option, Some, None, refl, sym, ap, option_and_then, option_map, find, All, ◌||◌}
use Rattle.std.specs.List.{cons_option, list_any}
use Rattle.std.proofs.lemmas.List.Elements.{All-head, All-tail}

module _ {A B : Type 0} where
  pub map_same : (f g : A → B) (xs : List A) → All (λ x. f x ≡ g x) xs → map f xs ≡ map g xs
  map_same f g [] all = refl
  map_same f g (x ∷ xs) all = let h = All-head (λ x. f x ≡ g x) x xs all in let t = map_same f g xs (All-tail (λ x. f x ≡ g x) x xs all) in λ i. h i ∷ t i

  pub map_agree : (f g : A → B) → ((x : A) → f x ≡ g x) → (xs : List A) → map f xs ≡ map g xs
  map_agree f g same [] = refl
  map_agree f g same (x ∷ xs) = let h = same x in let t = map_agree f g same xs in λ i. h i ∷ t i

  pub filter_map_agree : (f g : A → Option B) → ((x : A) → f x ≡ g x) → (xs : List A) → filter_map f xs ≡ filter_map g xs
  filter_map_agree f g same [] = refl
  filter_map_agree f g same (x ∷ xs) = let h = same x in let t = filter_map_agree f g same xs in λ i. cons_option (h i) (t i)

  pub filter-map : (p : B → Bool) (f : A → B) (xs : List A) → filter p (map f xs) ≡ map f (filter (λ x. p (f x)) xs)
  filter-map p f [] = refl
  filter-map p f (x ∷ xs) = by (p (f x)) (filter-map p f xs)
    where
      by : (b : Bool) → filter p (map f xs) ≡ map f (filter (λ x. p (f x)) xs) → cond b (f x ∷ filter p (map f xs)) (filter p (map f xs)) ≡ map f (cond b (x ∷ filter (λ x. p (f x)) xs) (filter (λ x. p (f x)) xs))
      by true h = ap (λ l. f x ∷ l) h
      by false h = h

  pub find-map : (p : B → Bool) (f : A → B) (xs : List A) → find p (map f xs) ≡ option_map f (find (λ x. p (f x)) xs)
  find-map p f [] = refl
  find-map p f (x ∷ xs) = by (p (f x)) (find-map p f xs)
    where
      by : (b : Bool) → find p (map f xs) ≡ option_map f (find (λ x. p (f x)) xs) → cond b (Some (f x)) (find p (map f xs)) ≡ option_map f (cond b (Some x) (find (λ x. p (f x)) xs))
      by true h = refl
      by false h = h

  pub any_map : (p : B → Bool) (f : A → B) (xs : List A) → list_any p (map f xs) ≡ list_any (λ x. p (f x)) xs
  any_map p f [] = refl
  any_map p f (x ∷ xs) = ap (λ b. p (f x) || b) (any_map p f xs)

  pub map_count : (f : A → B) (xs : List A) → length (map f xs) ≡ length xs
  map_count f [] = refl
  map_count f (x ∷ xs) = ap suc (map_count f xs)

  pub map_at : (f : A → B) (xs : List A) (k : ℕ) (d : A) (e : B) → f d ≡ e → get_or (map f xs) k e ≡ f (get_or xs k d)
  map_at f [] k d e is = sym is
  map_at f (x ∷ xs) zero d e is = refl
  map_at f (x ∷ xs) (suc k) d e is = map_at f xs k d e is

module _ {A : Type 0} where
  pub filter_same : (p q : A → Bool) (xs : List A) → All (λ x. p x ≡ q x) xs → filter p xs ≡ filter q xs
  filter_same p q [] all = refl
  filter_same p q (x ∷ xs) all = let h = All-head (λ x. p x ≡ q x) x xs all in let t = filter_same p q xs (All-tail (λ x. p x ≡ q x) x xs all) in λ i. cond (h i) (x ∷ t i) (t i)

  pub any_agree : (p q : A → Bool) → ((x : A) → p x ≡ q x) → (xs : List A) → list_any p xs ≡ list_any q xs
  any_agree p q same [] = refl
  any_agree p q same (x ∷ xs) = let h = same x in let t = any_agree p q same xs in λ i. h i || t i

module _ {A B C : Type 0} where
  pub map-map : (g : B → C) (f : A → B) (xs : List A) → map g (map f xs) ≡ map (λ x. g (f x)) xs
  map-map g f [] = refl
  map-map g f (x ∷ xs) = ap (λ l. g (f x) ∷ l) (map-map g f xs)

  pub filter_map-map : (g : B → Option C) (f : A → B) (xs : List A) → filter_map g (map f xs) ≡ filter_map (λ x. g (f x)) xs
  filter_map-map g f [] = refl
  filter_map-map g f (x ∷ xs) = ap (λ l. cons_option (g (f x)) l) (filter_map-map g f xs)

  pub filter_map-twice : (g : B → Option C) (f : A → Option B) (xs : List A) → filter_map g (filter_map f xs) ≡ filter_map (λ x. option_and_then g (f x)) xs
  filter_map-twice g f [] = refl
  filter_map-twice g f (x ∷ xs) = by (f x) (filter_map-twice g f xs)
    where
      by : (o : Option B) → filter_map g (filter_map f xs) ≡ filter_map (λ x. option_and_then g (f x)) xs → filter_map g (cons_option o (filter_map f xs)) ≡ cons_option (option_and_then g o) (filter_map (λ x. option_and_then g (f x)) xs)
      by None h = h
      by (Some y) h = ap (λ l. cons_option (g y) l) h

pub Some_map : {A : Type 0} (xs ys : List A) → map Some xs ≡ map Some ys → xs ≡ ys
Some_map [] [] h = refl
Some_map [] (y ∷ ys) h = absurd (cc)
Some_map (x ∷ xs) [] h = absurd (cc)
Some_map (x ∷ xs) (y ∷ ys) h = let here : x ≡ y = cc in let rest : map Some xs ≡ map Some ys = cc in let t = Some_map xs ys rest in λ i. here i ∷ t i
