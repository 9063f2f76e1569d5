-- Lists of which all items are there.
use Rattle.std.proofs.Common.{◌≡◌, List, [], ◌∷◌, map, Option, Some, option_map, refl, ap, ◌∙◌}
use Rattle.sym_parts.specs.Code.{all_of}

pub all_some : {A : Type 0} (xs : List A) → all_of (map Some xs) ≡ Some xs
all_some [] = refl
all_some (x ∷ xs) = ap (option_map (λ rest. x ∷ rest)) (all_some xs)

pub all_there : {A : Type 0} (os : List (Option A)) (xs : List A) → os ≡ map Some xs → all_of os ≡ Some xs
all_there os xs e = ap all_of e ∙ all_some xs
