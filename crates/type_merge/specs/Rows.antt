-- Worked types.
use Rattle.std.specs.Prelude.{◌≡◌, [], ◌∷◌, Some, None, refl}
use Rattle.wasm_types.specs.declared.value.ValType.TheVariants.{I32, I64}
use Rattle.wasm_types.specs.declared.function.FuncType.{FuncType}
use Rattle.type_merge.specs.Types.{merged, type_number}

-- three types that differ: in what they take, and in what they give
abbrev nothing : FuncType
nothing = record { params = []; results = [] }

abbrev takes : FuncType
takes = record { params = I32 ∷ []; results = [] }

abbrev gives : FuncType
gives = record { params = []; results = I32 ∷ [] }

abbrev gives_long : FuncType
gives_long = record { params = []; results = I64 ∷ [] }

-- each once, in first-seen order
merged_worked : merged (takes ∷ nothing ∷ takes ∷ gives ∷ nothing ∷ gives_long ∷ []) ≡ takes ∷ nothing ∷ gives ∷ gives_long ∷ []
merged_worked = refl

first_worked : type_number (takes ∷ nothing ∷ gives ∷ []) takes ≡ Some 0
first_worked = refl

last_worked : type_number (takes ∷ nothing ∷ gives ∷ []) gives ≡ Some 2
last_worked = refl

absent_worked : type_number (takes ∷ nothing ∷ gives ∷ []) gives_long ≡ None
absent_worked = refl
