use Rattle.wasm_types.specs.Stays.{const_expr_stays}
use Rattle.wasm_types.proofs.laws.const_expr_is_steady.Goals as goal

pub returns : goal.returns
returns c = const_expr_stays
