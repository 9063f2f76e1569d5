-- Which modules are valid (Core 3), and what is answered of them.
use Rattle.std.specs.Prelude.{◌≡◌, ◌+◌, ◌<◌, ℕ, length, true, false, Some, Result, Ok, Err}
use Rattle.wasm_module.specs.declared.structure.Module.{Module}
use Rattle.valid_bodies.specs.First.{TypedAt, IsFirst}
use Rattle.wasm_valid.specs.declared.fault.ValidError.{ValidError}
use Rattle.wasm_valid.specs.declared.fault.ValidError.TheVariants.{Invalid, OutOfMemory}
use Rattle.wl_base.specs.declared.fault.InvalidAt.{InvalidAt}
use Rattle.wl_base.specs.declared.fault.InvalidAt.TheVariants as places
use Rattle.wasm_valid.specs.Spaces.{a_function, imported, spaces_of, context_of}
use Rattle.wasm_valid.specs.Rules.{stands}

-- All rules hold, and each body has a typing.
pub record IsValid (m : Module) : Type 0 where
  pub rules : stands (spaces_of m) m ≡ true
  pub bodies : (k : ℕ) → k < length m.bodies → TypedAt (context_of m) m.functions m.bodies k

-- The first body without a typing has this number among all functions, where all other rules hold.
abbrev pub IsUntyped : Module → ℕ → Type 0
IsUntyped m n =
    (stands (spaces_of m) m ≡ true)
    × ((k : ℕ) × (n ≡ length (imported a_function m.imports) + k) × IsFirst (context_of m) m.functions m.bodies (Some k))

-- It isn't valid here, and all that is judged before is.
abbrev pub IsInvalid : Module → InvalidAt → Type 0
IsInvalid m places.Module = stands (spaces_of m) m ≡ false
IsInvalid m (places.Body n) = IsUntyped m n

-- The answer is true of the module.
abbrev pub Judges : Result (Unit {0}) ValidError → Module → Type 0
Judges (Ok valid) m = IsValid m
Judges (Err (Invalid at)) m = IsInvalid m at
Judges (Err OutOfMemory) m = Unit {0}

-- A rule outside the bodies fails, or memory was refused.
abbrev pub FailsOutside : ValidError → Module → Type 0
FailsOutside (Invalid places.Module) m = stands (spaces_of m) m ≡ false
FailsOutside (Invalid (places.Body n)) m = ⊥
FailsOutside OutOfMemory m = Unit {0}
