use Rattle.wasm_grammar.specs.ReaderLaws.{one_value}
use Rattle.wasm_types.specs.Types.{SpellsConstExpr, const_expr_at}
use Rattle.wasm_types.specs.TypeLaws.{const_expr_reader}
use Rattle.wasm_types.proofs.laws.const_expr_is_unambiguous.Goals as goal

pub returns : goal.returns
returns c = one_value SpellsConstExpr const_expr_at const_expr_reader
