-- What is answered of an object.
use Rattle.std.specs.Prelude.{◌≡◌, ◌+◌, ◌<◌, ℕ, List, length, slice_get, true, false, Result, Ok, Err}
use Rattle.object_file.specs.wl_base.declared.fault.InvalidAt.{InvalidAt}
use Rattle.object_file.specs.wl_base.declared.fault.InvalidAt.TheVariants as places
use Rattle.object_file.specs.declared.object.Object.{Object}
use Rattle.object_file.specs.Spaces.{function_imports}
use Rattle.wasm_valid.specs.declared.fault.ValidError.{ValidError}
use Rattle.wasm_valid.specs.declared.fault.ValidError.TheVariants.{Invalid, OutOfMemory}
use Rattle.valid_objects.specs.Objects.{TypedIn, globals_stand, IsValidObject}

-- The first defined function whose body has no typing stands at this place among those that are defined.
abbrev pub IsFirstIn : Object → List ℕ → ℕ → Type 0
IsFirstIn o bytes k =
    (k < length o.functions) × ((j : ℕ) → j < k → TypedIn o bytes (slice_get o.functions j)) × (TypedIn o bytes (slice_get o.functions k) → ⊥)

-- It has this number among all functions, imported ones first, where all globals stand.
abbrev pub IsUntypedIn : Object → List ℕ → ℕ → Type 0
IsUntypedIn o bytes n = (globals_stand o ≡ true) × ((k : ℕ) × (n ≡ length (function_imports o) + k) × IsFirstIn o bytes k)

-- It isn't valid here, and all that is judged before is.
abbrev pub IsInvalidObject : Object → List ℕ → InvalidAt → Type 0
IsInvalidObject o bytes places.Module = globals_stand o ≡ false
IsInvalidObject o bytes (places.Body n) = IsUntypedIn o bytes n

-- The answer is true of the object, whose bodies stand in these bytes.
abbrev pub JudgesObject : Result (Unit {0}) ValidError → Object → List ℕ → Type 0
JudgesObject (Ok valid) o bytes = IsValidObject o bytes
JudgesObject (Err (Invalid at)) o bytes = IsInvalidObject o bytes at
JudgesObject (Err OutOfMemory) o bytes = Unit {0}
