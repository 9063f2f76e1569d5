use Rattle.std.proofs.Common.{◌≡◌, length}
use Rattle.wasm_sections.specs.Reading.{sections_at}
use Rattle.wasm_sections.proofs.Loop.{with_front}
use Rattle.wasm_sections.proofs.reading.sections_at.Given as goal

abbrev pub invariant-loop-rest : goal.invariant-loop-rest
invariant-loop-rest l = with_front l.sections (sections_at (length l.rest) l.last l.end l.rest) ≡ sections_at (length l.bytes) 0 l.end l.bytes

abbrev pub decreases-loop-rest : goal.decreases-loop-rest
decreases-loop-rest l = length l.rest
