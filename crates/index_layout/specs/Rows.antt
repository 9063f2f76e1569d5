-- Worked numbers: two imports, and three that are defined.
use Rattle.std.specs.Prelude.{◌≡◌, [], ◌∷◌, ◌++◌, Some, None, refl, ◌==◌}
use Rattle.index_layout.specs.Numbers.{number_in, number_by}

import_worked : number_in ((70 ∷ 7 ∷ []) ++ (9 ∷ 0 ∷ 5 ∷ [])) 7 ≡ Some 1
import_worked = refl

-- the first that is defined stands behind the imports
defined_worked : number_in ((70 ∷ 7 ∷ []) ++ (9 ∷ 0 ∷ 5 ∷ [])) 9 ≡ Some 2
defined_worked = refl

last_worked : number_by (λ a b. a == b) ((70 ∷ 7 ∷ []) ++ (9 ∷ 0 ∷ 5 ∷ [])) 5 ≡ 4
last_worked = refl

absent_worked : number_in ((70 ∷ 7 ∷ []) ++ (9 ∷ 0 ∷ 5 ∷ [])) 6 ≡ None
absent_worked = refl
