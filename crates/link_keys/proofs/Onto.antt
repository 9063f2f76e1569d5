-- What is put behind others, each once.
use Rattle.std.proofs.Common.{◌≡◌, ℕ, Bool, true, false, ◌||◌, List, [], ◌∷◌, ◌++◌, map, length, position, Option, Some, None, refl, sym, ap, subst, ◌∙◌, append_assoc, append-nil}
use Rattle.std.specs.Prelude.{if◌then◌else◌}
use Rattle.std.specs.List.{list_any}
use Rattle.std.proofs.lemmas.List.Folds.{list_any-append}
use Rattle.link_program.specs.wl_base.Choice.{distinct, distinct_onto}
use Rattle.link_program.specs.index_layout.Numbers.{number_by}
use Rattle.link_keys.proofs.Positions.{position_stays}
use Rattle.link_keys.proofs.Equals.{Holds, holds_onto, stands, number_is}

-- what is found keeps its place
seen_stays : {A : Type 0} (test : A → Bool) (seen : List A) (x : A) (n : ℕ) (r : Bool) → position test seen ≡ Some n → position test (if r then seen else seen ++ x ∷ []) ≡ Some n
seen_stays test seen x n true at = at
seen_stays test seen x n false at = position_stays test seen (x ∷ []) n at

pub onto_stays : {A : Type 0} (same : A → A → Bool) (test : A → Bool) (seen xs : List A) (n : ℕ) → position test seen ≡ Some n → position test (distinct_onto same seen xs) ≡ Some n
onto_stays same test seen [] n at = at
onto_stays same test seen (x ∷ xs) n at = onto_stays same test (if list_any (same x) seen then seen else seen ++ x ∷ []) xs n (seen_stays test seen x n (list_any (same x) seen) at)

module _ {A : Type 0} (same : A → A → Bool) (sound : (x y : A) → same x y ≡ true → x ≡ y) (whole : (x : A) → same x x ≡ true) where
  abbrev with_one : List A → A → List A
  with_one seen x = if list_any (same x) seen then seen else seen ++ x ∷ []

  either_true : (a b : Bool) → b ≡ true → (a || (b || false)) ≡ true
  either_true true b e = refl
  either_true false true e = refl
  either_true false false e = absurd cc

  -- What is put behind others is held, with its number.
  pub one_held : (seen : List A) (x : A) → Holds same sound whole (with_one seen x) x
  one_held seen x = holds_onto same sound whole x seen (x ∷ []) (either_true (list_any (same x) seen) (same x x) (whole x))

  pub number_stays : (seen xs : List A) (x : A) → Holds same sound whole seen x → number_by same (distinct_onto same seen xs) x ≡ number_by same seen x
  number_stays seen xs x held =
      let s = stands same sound whole seen x held in
      number_is same sound whole (distinct_onto same seen xs) x s.at (onto_stays same (same x) seen xs s.at s.found) ∙ sym (number_is same sound whole seen x s.at s.found)

  kept_held : (seen : List A) (x y : A) (r : Bool) → list_any (same y) seen ≡ true → list_any (same y) (if r then seen else seen ++ x ∷ []) ≡ true
  kept_held seen x y true held = held
  kept_held seen x y false held = list_any-append (same y) seen (x ∷ []) ∙ rw held refl

  -- ---- numbers that are mapped, each once or all

  new : List A → List A → List A
  new seen [] = []
  new seen (x ∷ xs) = if list_any (same x) seen then new seen xs else x ∷ new (seen ++ x ∷ []) xs

  onto_new : (seen xs : List A) → distinct_onto same seen xs ≡ seen ++ new seen xs
  unfolding new
  onto_new seen [] = sym (append-nil seen)
  onto_new seen (x ∷ xs) = by_seen (list_any (same x) seen) (onto_new seen xs) (onto_new (seen ++ x ∷ []) xs)
    where
      by_seen : (r : Bool) → distinct_onto same seen xs ≡ seen ++ new seen xs → distinct_onto same (seen ++ x ∷ []) xs ≡ (seen ++ x ∷ []) ++ new (seen ++ x ∷ []) xs
          → distinct_onto same (if r then seen else seen ++ x ∷ []) xs ≡ seen ++ (if r then new seen xs else x ∷ new (seen ++ x ∷ []) xs)
      by_seen true one more = one
      by_seen false one more = more ∙ append_assoc seen (x ∷ []) (new (seen ++ x ∷ []) xs)

  -- What is put behind others stands behind them.
  pub onto_more : (seen xs : List A) → (more : List A) × (distinct_onto same seen xs ≡ seen ++ more)
  onto_more seen xs = (new seen xs, onto_new seen xs)

module _ {A B : Type 0} (same : A → A → Bool) (sound : (x y : A) → same x y ≡ true → x ≡ y) (whole : (x : A) → same x x ≡ true)
    (other : B → B → Bool) (other_sound : (x y : B) → other x y ≡ true → x ≡ y) (other_whole : (x : B) → other x x ≡ true) (f : A → B) where
  behind : (seen : List A) (s : List B) (x z : A) → ((y : A) → list_any (same y) seen ≡ true → list_any (other (f y)) s ≡ true)
      → list_any (same z) (seen ++ x ∷ []) ≡ true → list_any (other (f z)) (if list_any (other (f x)) s then s else s ++ f x ∷ []) ≡ true
  behind seen s x z held is = by_seen (list_any (same z) seen) (same z x) refl refl (sym (list_any-append (same z) seen (x ∷ [])) ∙ is)
    where
      by_seen : (a b : Bool) → list_any (same z) seen ≡ a → same z x ≡ b → (a || (b || false)) ≡ true → list_any (other (f z)) (if list_any (other (f x)) s then s else s ++ f x ∷ []) ≡ true
      by_seen true b p q e = kept_held other other_sound other_whole s (f x) (f z) (list_any (other (f x)) s) (held z p)
      by_seen false true p q e = subst (λ y. list_any (other (f y)) (if list_any (other (f x)) s then s else s ++ f x ∷ []) ≡ true) (sym (sound z x q)) (one_held other other_sound other_whole s (f x))
      by_seen false false p q e = absurd cc

  mapped_new : (seen xs : List A) (s : List B) → ((y : A) → list_any (same y) seen ≡ true → list_any (other (f y)) s ≡ true)
      → distinct_onto other s (map f (new same sound whole seen xs)) ≡ distinct_onto other s (map f xs)
  unfolding new
  mapped_new seen [] s held = refl
  mapped_new seen (x ∷ xs) s held = by_seen (list_any (same x) seen) refl (mapped_new seen xs s held)
      (mapped_new (seen ++ x ∷ []) xs (if list_any (other (f x)) s then s else s ++ f x ∷ []) (λ z is. behind seen s x z held is))
    where
      by_seen : (r : Bool) → list_any (same x) seen ≡ r → distinct_onto other s (map f (new same sound whole seen xs)) ≡ distinct_onto other s (map f xs)
          → distinct_onto other (if list_any (other (f x)) s then s else s ++ f x ∷ []) (map f (new same sound whole (seen ++ x ∷ []) xs)) ≡ distinct_onto other (if list_any (other (f x)) s then s else s ++ f x ∷ []) (map f xs)
          → distinct_onto other s (map f (if r then new same sound whole seen xs else x ∷ new same sound whole (seen ++ x ∷ []) xs)) ≡ distinct_onto other (if list_any (other (f x)) s then s else s ++ f x ∷ []) (map f xs)
      by_seen true is one more = one ∙ ap (λ r. distinct_onto other (if r then s else s ++ f x ∷ []) (map f xs)) (sym (held x is))
      by_seen false is one more = more

  -- Numbers each once give what all of them give.
  pub mapped_once : (xs : List A) (s : List B) → distinct_onto other s (map f (distinct same xs)) ≡ distinct_onto other s (map f xs)
  mapped_once xs s = ap (λ ys. distinct_onto other s (map f ys)) (onto_new same sound whole [] xs) ∙ mapped_new [] xs s (λ y is. absurd cc)
