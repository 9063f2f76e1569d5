-- Steps of loops over numbers and over lists.
use Rattle.std.proofs.Common.{arith, ◌≡◌, ℕ, ◌+◌, ◌<◌, ◌≤◌, min, Bool, true, false, List, [], ◌∷◌, ◌++◌, map, filter, filter_map, fold, take, get_or, length, Option, Some, None, refl, sym, ap, ◌∙◌, append_assoc, add-one, append-nil}
use Rattle.std.proofs.lemmas.List.{map-append, take_more, length-take}
use Rattle.std.proofs.lemmas.List.Sums.{fold-append}
use Rattle.std.specs.List.{cons_option}
use Rattle.std.proofs.lemmas.List.Elements.{filter_map-append, filter-append}
use Rattle.link_keys.specs.Lists.{numbers_below}

-- ---- numbers below a count

pub below_passes : (test : ℕ → Bool) (n : ℕ) → test n ≡ true → numbers_below test (n + 1) ≡ numbers_below test n ++ n ∷ []
below_passes test n e = rw (add-one, e) refl

pub below_fails : (test : ℕ → Bool) (n : ℕ) → test n ≡ false → numbers_below test (n + 1) ≡ numbers_below test n
below_fails test n e = rw (add-one, e, append-nil) refl

module _ {A : Type 0} (F : ℕ → A) (test : ℕ → Bool) (n : ℕ) (old keys : List A) (held : keys ≡ old ++ map F (numbers_below test n)) where
  pub number_pushed : test n ≡ true → keys ++ F n ∷ [] ≡ old ++ map F (numbers_below test (n + 1))
  number_pushed e = rw (held, below_passes test n e, map-append F (numbers_below test n) (n ∷ []), append_assoc) refl

  pub number_passed : test n ≡ false → keys ≡ old ++ map F (numbers_below test (n + 1))
  number_passed e = rw (held, below_fails test n e) refl

module _ {A B : Type 0} (f : B → A → B) (F : ℕ → A) (test : ℕ → Bool) (n : ℕ) (old now : B) (held : now ≡ fold f old (map F (numbers_below test n))) where
  pub number_folded : test n ≡ true → f now (F n) ≡ fold f old (map F (numbers_below test (n + 1)))
  number_folded e = rw (held, below_passes test n e, map-append F (numbers_below test n) (n ∷ []), fold-append f old (map F (numbers_below test n)) (F n ∷ [])) refl

  pub number_skipped : test n ≡ false → now ≡ fold f old (map F (numbers_below test (n + 1)))
  number_skipped e = rw (held, below_fails test n e) refl

-- ---- what some items give

module _ {X Y : Type 0} (h : X → Option Y) (xs : List X) (i : ℕ) (d : X) (below : i < length xs) where
  gives_more : (y : Y) → h (get_or xs i d) ≡ Some y → filter_map h (take (i + 1) xs) ≡ filter_map h (take i xs) ++ y ∷ []
  gives_more y e = rw (take_more xs i d below, filter_map-append h (take i xs) (get_or xs i d ∷ []), e) refl

  gives_none : h (get_or xs i d) ≡ None → filter_map h (take (i + 1) xs) ≡ filter_map h (take i xs)
  gives_none e = rw (take_more xs i d below, filter_map-append h (take i xs) (get_or xs i d ∷ []), e, append-nil) refl

  pub item_pushed : (old keys : List Y) (y : Y) → keys ≡ old ++ filter_map h (take i xs) → h (get_or xs i d) ≡ Some y → keys ++ y ∷ [] ≡ old ++ filter_map h (take (i + 1) xs)
  item_pushed old keys y held e = rw (held, gives_more y e, append_assoc) refl

  pub item_passed : (old keys : List Y) → keys ≡ old ++ filter_map h (take i xs) → h (get_or xs i d) ≡ None → keys ≡ old ++ filter_map h (take (i + 1) xs)
  item_passed old keys held e = rw (held, gives_none e) refl

  pub item_folded : {B : Type 0} (f : B → Y → B) (old now : B) (y : Y) → now ≡ fold f old (filter_map h (take i xs)) → h (get_or xs i d) ≡ Some y → f now y ≡ fold f old (filter_map h (take (i + 1) xs))
  item_folded f old now y held e = rw (held, gives_more y e, fold-append f old (filter_map h (take i xs)) (y ∷ [])) refl

  pub item_skipped : {B : Type 0} (f : B → Y → B) (old now : B) → now ≡ fold f old (filter_map h (take i xs)) → h (get_or xs i d) ≡ None → now ≡ fold f old (filter_map h (take (i + 1) xs))
  item_skipped f old now held e = rw (held, gives_none e) refl

-- ---- folds over a list

pub folds_more : {A B : Type 0} (f : B → A → B) (a now : B) (xs : List A) (i : ℕ) (d : A) → i < length xs → now ≡ fold f a (take i xs) → f now (get_or xs i d) ≡ fold f a (take (i + 1) xs)
folds_more f a now xs i d below held = rw (held, take_more xs i d below, fold-append f a (take i xs) (get_or xs i d ∷ [])) refl

-- ---- what each item gives

module _ {X Y : Type 0} (h : X → Option Y) (xs : List X) (i : ℕ) (d : X) (below : i < length xs) where
  given_more : filter_map h (take (i + 1) xs) ≡ filter_map h (take i xs) ++ cons_option (h (get_or xs i d)) []
  given_more = ap (filter_map h) (take_more xs i d below) ∙ filter_map-append h (take i xs) (get_or xs i d ∷ [])

  pub items_more : (old keys now : List Y) → keys ≡ old ++ filter_map h (take i xs) → now ≡ keys ++ cons_option (h (get_or xs i d)) [] → now ≡ old ++ filter_map h (take (i + 1) xs)
  items_more old keys now held is =
      is ∙ ap (λ ks. ks ++ cons_option (h (get_or xs i d)) []) held
      ∙ append_assoc old (filter_map h (take i xs)) (cons_option (h (get_or xs i d)) [])
      ∙ ap (λ ys. old ++ ys) (sym given_more)

  pub items_folded : {B : Type 0} (f : B → Y → B) (old keys now : B) → keys ≡ fold f old (filter_map h (take i xs)) → now ≡ fold f keys (cons_option (h (get_or xs i d)) []) → now ≡ fold f old (filter_map h (take (i + 1) xs))
  items_folded f old keys now held is =
      is ∙ ap (λ k. fold f k (cons_option (h (get_or xs i d)) [])) held
      ∙ sym (fold-append f old (filter_map h (take i xs)) (cons_option (h (get_or xs i d)) []))
      ∙ ap (fold f old) (sym given_more)

pub filters_more : {X : Type 0} (test : X → Bool) (xs : List X) (i : ℕ) (d : X) → i < length xs → (keys now : List X) → keys ≡ filter test (take i xs) → now ≡ keys ++ filter test (get_or xs i d ∷ []) → now ≡ filter test (take (i + 1) xs)
filters_more test xs i d below keys now held is =
    is ∙ ap (λ ks. ks ++ filter test (get_or xs i d ∷ [])) held
    ∙ sym (filter-append test (take i xs) (get_or xs i d ∷ []))
    ∙ ap (filter test) (sym (take_more xs i d below))

-- One more of a list that is mapped.
pub maps_more : {X Y : Type 0} (f : X → Y) (xs : List X) (i : ℕ) (d : X) → i < length xs → (old : List Y) (y : Y) → old ≡ map f (take i xs) → y ≡ f (get_or xs i d) → old ++ y ∷ [] ≡ map f (take (i + 1) xs)
maps_more f xs i d below old y held is =
    ap (λ ys. ys ++ y ∷ []) held
    ∙ ap (λ z. map f (take i xs) ++ z ∷ []) is
    ∙ sym (map-append f (take i xs) (get_or xs i d ∷ []))
    ∙ ap (map f) (sym (take_more xs i d below))

-- A list has at least as many items as its front.
pub longer : {A : Type 0} (old new : List A) → take (length old) new ≡ old → length old ≤ length new
longer old new front = omega (arith, sym (ap length front) ∙ length-take (length old) new)
