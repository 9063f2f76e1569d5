-- What the common instructions take and give.
use Rattle.std.specs.Prelude.{List, [], ◌∷◌, Option, Some, None, Bool, reverse, option_and_then}
use Rattle.wasm_types.specs.declared.value.ValType.TheVariants.{I32}
use Rattle.wasm_types.specs.declared.function.FuncType.{FuncType}
use Rattle.wasm_instr.specs.declared.instr.Instr.{Instr}
use Rattle.wasm_instr.specs.declared.instr.Instr.TheVariants.{Plain, Block, Branch, BranchTable, Call, CallIndirect, GlobalAt}
use Rattle.valid_rules.specs.declared.types.Operand.{Operand}
use Rattle.valid_rules.specs.declared.types.Shape.{Shape}
use Rattle.valid_rules.specs.declared.types.Shape.TheVariants.{Typed, Untyped}
use Rattle.valid_rules.specs.Reading.{take_all, put}
use Rattle.valid_bodies.specs.declared.effects.Effect.{Effect}
use Rattle.valid_bodies.specs.declared.effects.Effect.TheVariants as effects
use Rattle.valid_bodies.specs.Numeric.{to, one, two}

-- What typing sees of an instruction of this effect.
abbrev pub shape_of : Effect → Shape
shape_of effects.Untyped = Untyped
shape_of effects.Nothing = to [] []
shape_of (effects.Gives t) = to [] (t ∷ [])
shape_of (effects.Takes t) = to (t ∷ []) []
shape_of (effects.Turns t r) = one t r
shape_of (effects.Joins t r) = two t r
shape_of (effects.Stores t) = to (I32 ∷ t ∷ []) []
shape_of (effects.Chooses t) = to (t ∷ t ∷ I32 ∷ []) (t ∷ [])
shape_of effects.Fills = to (I32 ∷ I32 ∷ I32 ∷ []) []

-- A frame's operands behind an instruction that takes these and gives those.
abbrev pub typed_on : Bool → List Operand → FuncType → Option (List Operand)
typed_on d vs t = option_and_then (λ ws. Some (put t.results ws)) (take_all d (reverse t.params) vs)

-- A frame's operands behind an instruction of this shape, where that says what it takes and gives.
abbrev pub shaped : Bool → List Operand → Shape → Option (List Operand)
shaped d vs (Typed t) = typed_on d vs t
shaped d vs _ = None

-- Its typing hangs on more than its immediates and the locals: on what its index names, on what is open, or on the
-- function's results.
abbrev pub IsOther : Instr → Type 0
IsOther (Plain op) = Unit {0}
IsOther (Block op k) = Unit {0}
IsOther (Branch op l) = Unit {0}
IsOther (BranchTable ks l) = Unit {0}
IsOther (Call f) = Unit {0}
IsOther (CallIndirect k t) = Unit {0}
IsOther (GlobalAt op g) = Unit {0}
IsOther _ = ⊥
