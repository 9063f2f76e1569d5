use Rattle.wasm_instr.specs.Places.{body_rises}
use Rattle.wasm_instr.proofs.laws.places_rise.Goals as goal

pub returns : goal.returns
returns c = λ body bytes s. body_rises body bytes s
