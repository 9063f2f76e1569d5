-- When two types are the same: where their bytes are.
use Rattle.std.specs.Prelude.{Bool, true, false, not, ◌&&◌, ◌==◌}
use Rattle.std.specs.Cmp.Lexicographic.{pointwise}
use Rattle.wasm_types.specs.declared.value.ValType.{ValType}
use Rattle.wasm_types.specs.declared.function.FuncType.{FuncType}
use Rattle.wasm_types.specs.declared.table.GlobalType.{GlobalType}
pub use Rattle.wasm_types.specs.Types.{val_byte}

abbrev pub same_bool : Bool → Bool → Bool
same_bool true b = b
same_bool false b = not b

-- Each number type has a byte of its own (Core 5.3.1).
abbrev pub same_val : ValType → ValType → Bool
same_val a b = val_byte a == val_byte b

-- Function types are compared by their lists (Core 2.3.6: they are equal by structure alone).
abbrev pub same_type : FuncType → FuncType → Bool
same_type a b = pointwise same_val a.params b.params && pointwise same_val a.results b.results

abbrev pub same_global_type : GlobalType → GlobalType → Bool
same_global_type a b = (val_byte a.kind == val_byte b.kind) && same_bool a.var b.var
