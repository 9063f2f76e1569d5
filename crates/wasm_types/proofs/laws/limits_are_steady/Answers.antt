use Rattle.wasm_types.specs.Stays.{limits_stay}
use Rattle.wasm_types.proofs.laws.limits_are_steady.Goals as goal

pub returns : goal.returns
returns c = limits_stay
