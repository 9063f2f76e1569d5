use Rattle.wasm_sections.proofs.FrameLaws.{one_frame}
use Rattle.wasm_sections.proofs.laws.frame_is_unambiguous.Goals as goal

pub returns : goal.returns
returns c = one_frame
