-- How many objects a case has.
use Rattle.std.proofs.Common.{◌≡◌, ℕ, zero, suc, [], ◌∷◌, length, refl, arith}
use Rattle.std.proofs.lemmas.List.{length-append}
use Rattle.case_objects.specs.Objects.{object, objects_below}

pub objects_count : (n k : ℕ) → length (objects_below n k) ≡ k
objects_count n zero = refl
objects_count n (suc k) = omega (arith, length-append (objects_below n k) (object n k ∷ []), objects_count n k)
