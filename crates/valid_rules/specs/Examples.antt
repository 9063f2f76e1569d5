-- Worked bodies, as the reading ends with them: nothing is left open, or there is no typing.
use Rattle.std.specs.Prelude.{◌≡◌, List, [], ◌∷◌, Some, None}
use Rattle.std.proofs.Common.{refl}
use Rattle.wasm_types.specs.declared.value.ValType.{ValType}
use Rattle.wasm_types.specs.declared.value.ValType.TheVariants.{I32, I64}
use Rattle.wasm_types.specs.declared.function.FuncType.{FuncType}
use Rattle.valid_rules.specs.declared.types.Opener.TheVariants.{Block, Loop, If}
use Rattle.valid_rules.specs.declared.types.Shape.{Shape}
use Rattle.valid_rules.specs.declared.types.Shape.TheVariants.{Typed, Drops, Selects, Leaves, Branches, BranchesIf, BranchesBy, Opens, Else, End, Untyped}
use Rattle.valid_rules.specs.Reading.{Read, read, step, whole}

abbrev kind : List ValType → List ValType → FuncType
kind params results = record { params = params; results = results }

-- `i32.const` and `i64.const`
abbrev number : Shape
number = Typed (kind [] (I32 ∷ []))

abbrev long : Shape
long = Typed (kind [] (I64 ∷ []))

abbrev body : List ValType → List Shape → Read
body results code = read (whole results ∷ []) code

nothing_here : body [] (End ∷ []) ≡ Some []
unfolding read step
nothing_here = refl

-- i32.const, end
value_left : body [] (number ∷ End ∷ []) ≡ None
unfolding read step
value_left = refl

result_lacks : body (I32 ∷ []) (End ∷ []) ≡ None
unfolding read step
result_lacks = refl

result_of_other_type : body (I32 ∷ []) (long ∷ End ∷ []) ≡ None
unfolding read step
result_of_other_type = refl

-- unreachable, drop, end
dropped_behind_unreachable : body [] (Leaves [] ∷ Drops ∷ End ∷ []) ≡ Some []
unfolding read step
dropped_behind_unreachable = refl

-- unreachable, i64.const, i32.const, select, end
selected_behind_unreachable : body (I64 ∷ []) (Leaves [] ∷ long ∷ number ∷ Selects ∷ End ∷ []) ≡ Some []
unfolding read step
selected_behind_unreachable = refl

selected_of_two_types : body (I32 ∷ []) (number ∷ long ∷ number ∷ Selects ∷ End ∷ []) ≡ None
unfolding read step
selected_of_two_types = refl

-- A branch to a block takes its results, one to a loop its parameters.
block_left : body (I32 ∷ []) (Opens Block (kind [] (I32 ∷ [])) ∷ number ∷ Branches 0 ∷ End ∷ End ∷ []) ≡ Some []
unfolding read step
block_left = refl

loop_again : body (I32 ∷ []) (Opens Loop (kind [] (I32 ∷ [])) ∷ Branches 0 ∷ End ∷ End ∷ []) ≡ Some []
unfolding read step
loop_again = refl

label_lacks : body [] (Branches 1 ∷ End ∷ []) ≡ None
unfolding read step
label_lacks = refl

-- i32.const, br_if 0, end: what a branch takes is left where it isn't taken
branch_if : body (I32 ∷ []) (number ∷ number ∷ BranchesIf 0 ∷ End ∷ []) ≡ Some []
unfolding read step
branch_if = refl

-- The labels of a `br_table` take equally many operands.
table_of_two_arities : body [] (Opens Block (kind [] (I32 ∷ [])) ∷ number ∷ number ∷ BranchesBy (1 ∷ []) 0 ∷ End ∷ Drops ∷ End ∷ []) ≡ None
unfolding read step
table_of_two_arities = refl

if_else : body (I32 ∷ []) (number ∷ Opens If (kind [] (I32 ∷ [])) ∷ number ∷ Else ∷ number ∷ End ∷ End ∷ []) ≡ Some []
unfolding read step
if_else = refl

-- An `if` that gives what it doesn't take needs its `else`.
if_without_else : body (I32 ∷ []) (number ∷ Opens If (kind [] (I32 ∷ [])) ∷ number ∷ End ∷ End ∷ []) ≡ None
unfolding read step
if_without_else = refl

second_else : body [] (number ∷ Opens If (kind [] []) ∷ Else ∷ Else ∷ End ∷ End ∷ []) ≡ None
unfolding read step
second_else = refl

else_in_block : body [] (Opens Block (kind [] []) ∷ Else ∷ End ∷ End ∷ []) ≡ None
unfolding read step
else_in_block = refl

not_closed : body [] (Opens Block (kind [] []) ∷ End ∷ []) ≡ Some (whole [] ∷ [])
unfolding read step
not_closed = refl

untyped_here : body [] (Untyped ∷ End ∷ []) ≡ None
unfolding read step
untyped_here = refl
