use Rattle.wasm_grammar.specs.ReaderLaws.{one_value}
use Rattle.wasm_types.specs.Types.{SpellsTableType, table_type_at}
use Rattle.wasm_types.specs.TypeLaws.{table_type_reader}
use Rattle.wasm_types.proofs.laws.table_type_is_unambiguous.Goals as goal

pub returns : goal.returns
returns c = one_value SpellsTableType table_type_at table_type_reader
