-- Names of variants.
use Rattle.std.proofs.Common.{◌≡◌, ℕ, List, [], ◌∷◌, ◌++◌, map, refl, ap}
use Rattle.name_rules.specs.object_file.wasm_types.Types.{val_byte}
use Rattle.name_rules.specs.object_file.wasm_types.declared.value.ValType.{ValType}
use Rattle.name_rules.specs.object_file.wasm_types.declared.value.ValType.TheVariants.{I32, I64, F32, F64}
use Rattle.function_names.specs.Labels.{behind_marks, mismatch_prefix, stub_label}
use Rattle.function_names.specs.Laws.{VariantsAreNamed}

-- no type is the mark
behind : (ps rs : List ValType) (name : List ℕ) → behind_marks 3 (0xFF ∷ map val_byte ps ++ 0xFF ∷ map val_byte rs ++ 0xFF ∷ name) ≡ name
behind [] [] name = refl
behind [] (I32 ∷ rs) name = behind [] rs name
behind [] (I64 ∷ rs) name = behind [] rs name
behind [] (F32 ∷ rs) name = behind [] rs name
behind [] (F64 ∷ rs) name = behind [] rs name
behind (I32 ∷ ps) rs name = behind ps rs name
behind (I64 ∷ ps) rs name = behind ps rs name
behind (F32 ∷ ps) rs name = behind ps rs name
behind (F64 ∷ ps) rs name = behind ps rs name

pub are_named : VariantsAreNamed
unfolding stub_label
are_named t name = ap (λ rest. mismatch_prefix ++ rest) (behind t.params t.results name)
