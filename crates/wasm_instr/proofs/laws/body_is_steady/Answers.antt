use Rattle.wasm_instr.specs.Stays.{body_stays}
use Rattle.wasm_instr.proofs.laws.body_is_steady.Goals as goal

pub returns : goal.returns
returns c = body_stays
