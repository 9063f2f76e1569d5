use Rattle.wasm_grammar.specs.ReaderLaws.{one_value}
use Rattle.wasm_types.specs.Types.{SpellsFuncType, func_type_at}
use Rattle.wasm_types.specs.TypeLaws.{func_type_reader}
use Rattle.wasm_types.proofs.laws.func_type_is_unambiguous.Goals as goal

pub returns : goal.returns
returns c = one_value SpellsFuncType func_type_at func_type_reader
