use Rattle.std.proofs.Common.{subst}
use Rattle.wasm_sections.specs.Reading.{Gives}
use Rattle.wasm_sections.proofs.FrameLaws.{is_found, is_within, frame_again}
use Rattle.wasm_sections.proofs.reading.frame.Goals as goal

pub returns-clause-found : goal.returns-clause-found
returns-clause-found c = is_found c.args.bytes.now c.frame_at.result c.frame_at.ensures

pub returns-clause-only : goal.returns-clause-only
returns-clause-only c = λ ss h. subst (λ r. Gives (λ x. x) c.frame_at.result r) (frame_again c.args.bytes.now ss h) c.frame_at.ensures

pub returns-clause-within : goal.returns-clause-within
returns-clause-within c = is_within c.args.bytes.now c.frame_at.result c.frame_at.ensures
