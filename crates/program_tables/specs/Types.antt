-- The numbers of function types.
use Rattle.std.specs.Prelude.{◌≡◌, ℕ, List, map, slice_get, Some}
use Rattle.link_program.specs.wasm_types.declared.function.FuncType.{FuncType}
use Rattle.link_program.specs.object_file.declared.object.Object.{Object}
use Rattle.link_program.specs.object_file.Spaces.{no_type}

-- Types keep their numbers.
abbrev pub Keep : List FuncType → List FuncType → Type 0
Keep old new = (n : ℕ) (t : FuncType) → slice_get old n ≡ Some t → slice_get new n ≡ Some t

-- The numbers are those of these types.
abbrev pub AreNumbered : List FuncType → List ℕ → List FuncType → Type 0
AreNumbered types numbers these = map (slice_get types) numbers ≡ map Some these

-- By object, the numbers are those of its types; () to () is the first.
pub record AreTyped (types : List FuncType) (numbers : List (List ℕ)) (objects : List Object) : Type 0 where
  pub first : slice_get types 0 ≡ Some no_type
  pub each : map (map (slice_get types)) numbers ≡ map (λ o. map Some o.types) objects
