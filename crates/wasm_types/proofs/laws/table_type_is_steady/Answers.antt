use Rattle.wasm_types.specs.Stays.{table_type_stays}
use Rattle.wasm_types.proofs.laws.table_type_is_steady.Goals as goal

pub returns : goal.returns
returns c = table_type_stays
