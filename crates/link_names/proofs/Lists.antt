-- What stands in a list of numbers.
use Rattle.std.proofs.Common.{◌≡◌, ℕ, List, [], ◌∷◌, zero, suc, refl, sym, ap, ◌∙◌, map, get_or, Option, None}
use Rattle.std.specs.Prelude.{slice_get, unwrap_or}
use Rattle.std.proofs.lemmas.Option.{unwrap_or-slice_get}
use Rattle.link_names.specs.Numbered.{number_seen, numbers_seen}

pub read : {A : Type 0} (xs : List A) (i : ℕ) (d : A) (o : Option A) → o ≡ slice_get xs i → get_or xs i d ≡ unwrap_or o d
read xs i d o is = sym (unwrap_or-slice_get xs i d) ∙ ap (λ o. unwrap_or o d) (sym is)

pub at_map : {A B : Type 0} (f : A → B) (xs : List A) (i : ℕ) (d : A) (e : B) → f d ≡ e → get_or (map f xs) i e ≡ f (get_or xs i d)
at_map f [] i d e is = sym is
at_map f (x ∷ xs) zero d e is = refl
at_map f (x ∷ xs) (suc i) d e is = at_map f xs i d e is

-- a number that stands at a place, and none where none does
pub seen_at : (numbers : List ℕ) (i : ℕ) → get_or (numbers_seen numbers) i None ≡ number_seen (get_or numbers i 4294967295)
seen_at numbers i = at_map number_seen numbers i 4294967295 None refl

-- the lists of an object
pub lists_at : (lists : List (List ℕ)) (k : ℕ) → get_or (map numbers_seen lists) k [] ≡ numbers_seen (get_or lists k [])
lists_at lists k = at_map numbers_seen lists k [] [] refl
