use Rattle.wasm_sections.proofs.FrameLaws.{frame_within, frame_apart, frame_known, frame_rises}
use Rattle.wasm_sections.proofs.laws.sections_lie_in_order.Goals as goal

pub returns-clause-within : goal.returns-clause-within
returns-clause-within c = frame_within

pub returns-clause-apart : goal.returns-clause-apart
returns-clause-apart c = frame_apart

pub returns-clause-known : goal.returns-clause-known
returns-clause-known c = frame_known

pub returns-clause-rising : goal.returns-clause-rising
returns-clause-rising c = frame_rises
