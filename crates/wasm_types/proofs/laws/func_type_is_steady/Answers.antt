use Rattle.wasm_types.specs.Stays.{func_type_stays}
use Rattle.wasm_types.proofs.laws.func_type_is_steady.Goals as goal

pub returns : goal.returns
returns c = func_type_stays
