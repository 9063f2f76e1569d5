-- Lists: what is picked of them, what a list without repeats keeps, and the places of keys.
use Rattle.std.proofs.Common.{◌≡◌, ◌<◌, List, [], ◌∷◌, ◌++◌, length, map, Option, Some, None, Bool, true, false, refl, ap, ◌∙◌, inl, inr}
use Rattle.std.specs.Prelude.{filter_map, slice_get, unwrap_or, cond}
use Rattle.std.specs.List.{cons_option, list_all, list_any}
use Rattle.std.proofs.lemmas.Bool.{and_from}
use Rattle.list_places.specs.Has.{Has, Same}
use Rattle.list_places.proofs.Lists.{below, has_left, placed, stands}
use Rattle.wl_base.specs.Choice.{distinct_onto}
use Rattle.index_layout.specs.Numbers.{number_by}

-- ---- what is picked

pub none_of : {A B : Type 0} (f : A → Option B) (xs : List A) → ((x : A) → Has xs x → f x ≡ None) → filter_map f xs ≡ []
none_of f [] h = refl
none_of f (x ∷ xs) h = ap (λ o. cons_option o (filter_map f xs)) (h x (inl refl)) ∙ none_of f xs (λ y m. h y (inr m))

pub each_is : {A B : Type 0} (f : A → Option B) (g : A → B) (xs : List A) → ((x : A) → Has xs x → f x ≡ Some (g x)) → filter_map f xs ≡ map g xs
each_is f g [] h = refl
each_is f g (x ∷ xs) h = ap (λ o. cons_option o (filter_map f xs)) (h x (inl refl)) ∙ ap (λ ys. g x ∷ ys) (each_is f g xs (λ y m. h y (inr m)))

pub map_map : {A B C : Type 0} (f : B → C) (g : A → B) (xs : List A) → map f (map g xs) ≡ map (λ x. f (g x)) xs
map_map f g [] = refl
map_map f g (x ∷ xs) = ap (λ ys. f (g x) ∷ ys) (map_map f g xs)

-- ---- tests of all

pub all_true : {A : Type 0} (test : A → Bool) (xs : List A) → ((x : A) → Has xs x → test x ≡ true) → list_all test xs ≡ true
all_true test [] f = refl
all_true test (x ∷ xs) f = and_from (test x) (list_all test xs) (f x (inl refl)) (all_true test xs (λ y h. f y (inr h)))

-- ---- a list without repeats has all that the lists have

module _ {X : Type 0} (same : X → X → Bool) (s : Same same) where
  seen_kept : (seen xs : List X) (x : X) → (y : X) × Has seen y × (same x y ≡ true) → (y : X) × Has (distinct_onto same seen xs) y × (same x y ≡ true)
  seen_kept seen [] x h = h
  seen_kept seen (z ∷ zs) x h =
      seen_kept (cond (list_any (same z) seen) seen (seen ++ z ∷ [])) zs x (onto (list_any (same z) seen))
    where
      onto : (b : Bool) → (y : X) × Has (cond b seen (seen ++ z ∷ [])) y × (same x y ≡ true)
      onto true = h
      onto false = (h.0, has_left seen (z ∷ []) h.0 h.1, h.2)

  pub onto_seen : (seen xs : List X) (x : X) → Has seen x → (y : X) × Has (distinct_onto same seen xs) y × (same x y ≡ true)
  onto_seen seen xs x h = seen_kept seen xs x (x, h, s.itself x)

-- ---- the number of a key

-- where the key is, up to sameness
abbrev pub Among : {X : Type 0} → (X → X → Bool) → List X → X → Type 0
Among same xs k = (y : _) × Has xs y × (same k y ≡ true)

pub itself : {X : Type 0} (same : X → X → Bool) (s : Same same) (xs : List X) (k : X) → Has xs k → Among same xs k
itself same s xs k h = (k, h, s.itself k)

-- what stands at its number
pub at_number : {X : Type 0} (same : X → X → Bool) (xs : List X) (k : X) → Among same xs k → (y : X) × (slice_get xs (number_by same xs k) ≡ Some y) × (same k y ≡ true)
at_number same xs k h =
    let n = placed (same k) xs h.0 h.1 h.2 in
    let t = stands (same k) xs n.0 n.1 in
    (t.item, ap (λ o. slice_get xs (unwrap_or o 0)) n.1 ∙ t.there, t.passes)

pub number_below : {X : Type 0} (same : X → X → Bool) (xs : List X) (k : X) → Among same xs k → number_by same xs k < length xs
number_below same xs k h = let a = at_number same xs k h in below xs (number_by same xs k) a.0 a.1
