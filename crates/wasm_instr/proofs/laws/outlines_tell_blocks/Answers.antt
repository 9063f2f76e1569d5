use Rattle.wasm_instr.specs.SkimLaws.{steps_agree}
use Rattle.wasm_instr.proofs.laws.outlines_tell_blocks.Goals as goal

pub returns : goal.returns
returns c = λ nest x. steps_agree nest x
