-- A list at a place.
use Rattle.std.proofs.Common.{◌≡◌, ℕ, List, [], get_or, slice_get, Option, Some, None, sym, ap, ◌∙◌, unwrap_or}
use Rattle.std.proofs.lemmas.Option.{get_or_from_slice_get, unwrap_or-slice_get}

pub row_read : {X : Type 0} (rows : List (List X)) (i : ℕ) (row : List X) → Some row ≡ slice_get rows i → row ≡ get_or rows i []
row_read rows i row is = sym (get_or_from_slice_get rows i row [] (sym is))

pub row_missing : {X : Type 0} (rows : List (List X)) (i : ℕ) → None ≡ slice_get rows i → [] ≡ get_or rows i []
row_missing rows i is = ap (λ o. unwrap_or o []) is ∙ unwrap_or-slice_get rows i []
