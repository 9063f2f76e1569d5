-- Reading a list at a place.
use Rattle.std.proofs.Common.{◌≡◌, ℕ, List, get_or, sym, ap, ◌∙◌, Option}
use Rattle.std.specs.Prelude.{slice_get, unwrap_or}
use Rattle.std.proofs.lemmas.Option.{unwrap_or-slice_get}

-- what is found at a place, or a default
pub read : {A : Type 0} (xs : List A) (i : ℕ) (d : A) (o : Option A) → o ≡ slice_get xs i → get_or xs i d ≡ unwrap_or o d
read xs i d o is = sym (unwrap_or-slice_get xs i d) ∙ ap (λ o. unwrap_or o d) (sym is)
