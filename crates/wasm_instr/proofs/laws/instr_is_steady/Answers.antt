use Rattle.wasm_instr.specs.Stays.{instr_stays}
use Rattle.wasm_instr.proofs.laws.instr_is_steady.Goals as goal

pub returns : goal.returns
returns c = instr_stays
