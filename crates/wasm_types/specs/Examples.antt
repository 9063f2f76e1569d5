-- Worked examples.
use Rattle.std.specs.Prelude.{◌≡◌, [], ◌∷◌, Some, Ok, Err, pos}
use Rattle.std.proofs.Common.{refl}
use Rattle.wasm_grammar.specs.leb_codec.Reading.{number_at, end_of, end_within}
use Rattle.wasm_grammar.specs.wl_base.declared.item.Item.TheVariants as items
use Rattle.wasm_grammar.specs.declared.fault.Stop.TheVariants.{Broken, Foreign}
use Rattle.wasm_grammar.specs.Reading.{u32_at, s32_at, many_at, vector_at}
use Rattle.wasm_types.specs.declared.value.ValType.TheVariants.{I32, I64}
use Rattle.wasm_types.specs.declared.const_expr.ConstExpr.TheVariants as exprs
use Rattle.wasm_types.specs.Types.{val_type_at, func_type_at, limits_at, global_type_at, import_kind_at, const_expr_at}

-- (i32, i32) -> (i64), and a byte behind it
func_type_here : func_type_at 10 (0x60 ∷ 2 ∷ 0x7f ∷ 0x7f ∷ 1 ∷ 0x7e ∷ 9 ∷ []) ≡ Ok (record { params = I32 ∷ I32 ∷ []; results = I64 ∷ [] }, 9 ∷ [])
unfolding func_type_at vector_at many_at val_type_at u32_at number_at end_of end_within
func_type_here = refl

-- a funcref among the arguments, before a byte that is no type
func_type_foreign : func_type_at 10 (0x60 ∷ 2 ∷ 0x70 ∷ 0x01 ∷ []) ≡ Err (Foreign (items.ValueType 0x70))
unfolding func_type_at vector_at many_at val_type_at u32_at number_at end_of end_within
func_type_foreign = refl

limits_here : limits_at 10 (1 ∷ 2 ∷ 0x80 ∷ 0x01 ∷ []) ≡ Ok (record { min = 2; max = Some 128 }, [])
unfolding limits_at u32_at number_at end_of end_within
limits_here = refl

-- limits of a shared memory
limits_foreign : limits_at 10 (3 ∷ 2 ∷ []) ≡ Err (Foreign (items.LimitsFlag 3))
unfolding limits_at u32_at number_at end_of end_within
limits_foreign = refl

-- the bytes reach to 10, so the byte that is neither const nor var stands at 9
global_type_broken : global_type_at 10 (0x7f ∷ 2 ∷ []) ≡ Err (Broken 9)
unfolding global_type_at val_type_at
global_type_broken = refl

tag_import : import_kind_at 10 (4 ∷ 0 ∷ 0 ∷ []) ≡ Err (Foreign items.TagImport)
unfolding import_kind_at
tag_import = refl

-- i32.const 64
const_expr_here : const_expr_at 10 (0x41 ∷ 0xc0 ∷ 0x00 ∷ 0x0b ∷ []) ≡ Ok (exprs.I32 (pos 64), [])
unfolding const_expr_at s32_at number_at end_of end_within
const_expr_here = refl

-- i32.const 1, and i32.add where the end should be
const_expr_foreign : const_expr_at 10 (0x41 ∷ 0x01 ∷ 0x6a ∷ 0x0b ∷ []) ≡ Err (Foreign (items.ConstExpr 0x6a))
unfolding const_expr_at s32_at number_at end_of end_within
const_expr_foreign = refl
