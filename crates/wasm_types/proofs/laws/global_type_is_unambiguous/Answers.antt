use Rattle.wasm_grammar.specs.ReaderLaws.{one_value}
use Rattle.wasm_types.specs.Types.{SpellsGlobalType, global_type_at}
use Rattle.wasm_types.specs.TypeLaws.{global_type_reader}
use Rattle.wasm_types.proofs.laws.global_type_is_unambiguous.Goals as goal

pub returns : goal.returns
returns c = one_value SpellsGlobalType global_type_at global_type_reader
