use Rattle.wasm_types.specs.Stays.{global_type_stays}
use Rattle.wasm_types.proofs.laws.global_type_is_steady.Goals as goal

pub returns : goal.returns
returns c = global_type_stays
