-- Lists of keys that are told by others.
use Rattle.std.proofs.Common.{◌≡◌, ℕ, Bool, true, false, ◌||◌, cond, List, [], ◌∷◌, ◌++◌, map, filter, refl, sym, ap, ◌∙◌, arith, ◌<◌, length}
use Rattle.std.specs.Prelude.{if◌then◌else◌}
use Rattle.std.specs.List.{list_any, All}
use Rattle.std.proofs.lemmas.List.{map-append}
use Rattle.std.proofs.lemmas.List.Elements.{All-head, All-tail, All-cons, All-append}
use Rattle.link_program.specs.wl_base.Choice.{distinct, distinct_onto}
use Rattle.link_program.specs.index_layout.Numbers.{number_by}
use Rattle.link_keys.proofs.Positions.{number_of_map}

module _ {A B : Type 0} (f : A → B) (same : A → A → Bool) (told : B → B → Bool) (K : A → Type 0) (tells : (a b : A) → K a → K b → told (f a) (f b) ≡ same a b) where
  pub any_told : (a : A) (xs : List A) → K a → All K xs → list_any (told (f a)) (map f xs) ≡ list_any (same a) xs
  any_told a [] ka all = refl
  any_told a (x ∷ xs) ka all = rw (tells a x ka (All-head K x xs all), any_told a xs ka (All-tail K x xs all)) refl

  seen_told : (seen : List A) (x : A) (r : Bool) → (if r then map f seen else map f seen ++ f x ∷ []) ≡ map f (if r then seen else seen ++ x ∷ [])
  seen_told seen x true = refl
  seen_told seen x false = sym (map-append f seen (x ∷ []))

  seen_known : (seen : List A) (x : A) (r : Bool) → All K seen → K x → All K (if r then seen else seen ++ x ∷ [])
  seen_known seen x true all kx = all
  seen_known seen x false all kx = All-append K seen (x ∷ []) all (All-cons K x [] kx (λ k d below. absurd (omega arith)))

  pub distinct_told_onto : (seen xs : List A) → All K seen → All K xs → distinct_onto told (map f seen) (map f xs) ≡ map f (distinct_onto same seen xs)
  distinct_told_onto seen [] held all = refl
  distinct_told_onto seen (x ∷ xs) held all =
      let kx : K x = All-head K x xs all in
      ap (λ r. distinct_onto told (if r then map f seen else map f seen ++ f x ∷ []) (map f xs)) (any_told x seen kx held)
      ∙ ap (λ s. distinct_onto told s (map f xs)) (seen_told seen x (list_any (same x) seen))
      ∙ distinct_told_onto (if list_any (same x) seen then seen else seen ++ x ∷ []) xs (seen_known seen x (list_any (same x) seen) held kx) (All-tail K x xs all)

  pub distinct_told : (xs : List A) → All K xs → distinct told (map f xs) ≡ map f (distinct same xs)
  distinct_told xs all = distinct_told_onto [] xs (λ k d below. absurd (omega arith)) all

  one_told : (r : Bool) (x : A) (xs : List A) → cond r (f x ∷ map f xs) (map f xs) ≡ map f (cond r (x ∷ xs) xs)
  one_told true x xs = refl
  one_told false x xs = refl

  pub filter_told : (taken xs : List A) → All K taken → All K xs → filter (λ b. list_any (told b) (map f taken)) (map f xs) ≡ map f (filter (λ a. list_any (same a) taken) xs)
  filter_told taken [] held all = refl
  filter_told taken (x ∷ xs) held all =
      rw (any_told x taken (All-head K x xs all) held, filter_told taken xs held (All-tail K x xs all)) (one_told (list_any (same x) taken) x (filter (λ a. list_any (same a) taken) xs))

  known_told : (a : A) (xs : List A) → K a → All K xs → All (λ x. told (f a) (f x) ≡ same a x) xs
  known_told a [] ka all = λ k d below. absurd (omega arith)
  known_told a (x ∷ xs) ka all = All-cons (λ x. told (f a) (f x) ≡ same a x) x xs (tells a x ka (All-head K x xs all)) (known_told a xs ka (All-tail K x xs all))

  pub number_told : (a : A) (xs : List A) → K a → All K xs → number_by told (map f xs) (f a) ≡ number_by same xs a
  number_told a xs ka all = number_of_map f same told a xs (known_told a xs ka all)
