-- The same as it is computed: the first fault of a module.
use Rattle.std.specs.Prelude.{◌≡◌, ℕ, zero, suc, ◌+◌, Bool, false, List, length, if◌then◌else◌, Option, Some, None, option_map, option_and_then, slice_get, Result, Ok, Err}
use Rattle.wasm_types.specs.declared.function.FuncType.{FuncType}
use Rattle.wasm_instr.specs.declared.body.Body.{Body}
use Rattle.wasm_module.specs.declared.structure.Module.{Module}
use Rattle.valid_bodies.specs.declared.types.Context.{Context}
use Rattle.valid_bodies.specs.Shapes.{shapes_in}
use Rattle.valid_bodies.specs.Went.{accepts}
use Rattle.wl_base.specs.declared.fault.InvalidAt.{InvalidAt}
use Rattle.wl_base.specs.declared.fault.InvalidAt.TheVariants as places
use Rattle.wasm_valid.specs.declared.fault.ValidError.{ValidError}
use Rattle.wasm_valid.specs.declared.fault.ValidError.TheVariants.{Invalid, OutOfMemory}
use Rattle.wasm_valid.specs.Spaces.{a_function, imported, spaces_of, context_of}
use Rattle.wasm_valid.specs.Rules.{stands}

-- The reading of a body ends well.
abbrev pub accepted : Context → Option FuncType → Option Body → Bool
accepted c (Some t) (Some b) = accepts t.results (shapes_in c t b)
accepted c _ _ = false

abbrev pub accepted_at : Context → List ℕ → List Body → ℕ → Bool
accepted_at c functions bodies k = accepted c (option_and_then (slice_get c.types) (slice_get functions k)) (slice_get bodies k)

-- The first of so many numbers, from one on, that doesn't pass.
abbrev pub first_no : (ℕ → Bool) → ℕ → ℕ → Option ℕ
first_no test k zero = None
first_no test k (suc n) = if test k then first_no test (k + 1) n else Some k

abbrev pub body_at : Module → ℕ → InvalidAt
body_at m k = places.Body (length (imported a_function m.imports) + k)

-- The first fault: a rule outside the bodies, or the first body that isn't read to its end.
unfoldable pub module_fault : Module → Option InvalidAt
module_fault m =
    if stands (spaces_of m) m then option_map (body_at m) (first_no (accepted_at (context_of m) m.functions m.bodies) 0 (length m.bodies))
    else Some places.Module

-- The answer is the fault, none where it is Ok.
abbrev pub Tells : Result (Unit {0}) ValidError → Option InvalidAt → Type 0
Tells (Ok valid) said = said ≡ None
Tells (Err (Invalid at)) said = said ≡ Some at
Tells (Err OutOfMemory) said = Unit {0}
