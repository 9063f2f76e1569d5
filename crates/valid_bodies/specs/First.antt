-- The first body without a typing.
use Rattle.std.specs.Prelude.{◌<◌, ◌≤◌, ℕ, List, length, Option, Some, None, slice_get, option_and_then}
use Rattle.wasm_types.specs.declared.function.FuncType.{FuncType}
use Rattle.wasm_instr.specs.declared.body.Body.{Body}
use Rattle.valid_bodies.specs.declared.types.Context.{Context}
use Rattle.valid_bodies.specs.Shapes.{BodyIsTyped}

abbrev pub HasTyping : Context → Option FuncType → Option Body → Type 0
HasTyping c (Some t) (Some b) = BodyIsTyped c t b
HasTyping c _ _ = ⊥

-- The body at a place has a typing, where functions have types of these indices.
abbrev pub TypedAt : Context → List ℕ → List Body → ℕ → Type 0
TypedAt c functions bodies k = HasTyping c (option_and_then (slice_get c.types) (slice_get functions k)) (slice_get bodies k)

-- All bodies have a typing, or this is the place of the first that has none.
abbrev pub IsFirst : Context → List ℕ → List Body → Option ℕ → Type 0
IsFirst c functions bodies None = (k : ℕ) → k < length bodies → TypedAt c functions bodies k
IsFirst c functions bodies (Some k) =
    (k < length bodies) × ((j : ℕ) → j < k → TypedAt c functions bodies j) × (TypedAt c functions bodies k → ⊥)

-- All bodies from one place to another have a typing, or this is the place of the first of them that has none.
abbrev pub IsFirstIn : Context → List ℕ → List Body → ℕ → ℕ → Option ℕ → Type 0
IsFirstIn c functions bodies from to None = (k : ℕ) → from ≤ k → k < to → TypedAt c functions bodies k
IsFirstIn c functions bodies from to (Some k) =
    (from ≤ k) × (k < to) × ((j : ℕ) → from ≤ j → j < k → TypedAt c functions bodies j) × (TypedAt c functions bodies k → ⊥)
