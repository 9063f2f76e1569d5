-- Keys no two of which are equal.
use Rattle.std.specs.Prelude.{Bool, true, not, ◌&&◌, List, [], ◌∷◌}
use Rattle.std.specs.List.{list_any}

abbrev pub all_differ : {K : Type 0} → (K → K → Bool) → List K → Bool
all_differ equal [] = true
all_differ equal (key ∷ keys) = not (list_any (equal key) keys) && all_differ equal keys
