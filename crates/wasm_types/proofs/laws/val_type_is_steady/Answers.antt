use Rattle.wasm_types.specs.Stays.{val_type_stays}
use Rattle.wasm_types.proofs.laws.val_type_is_steady.Goals as goal

pub returns : goal.returns
returns c = val_type_stays
