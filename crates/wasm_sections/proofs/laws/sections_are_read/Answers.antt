use Rattle.std.proofs.Common.{length, arith}
use Rattle.wasm_sections.proofs.FrameLaws.{sections_found, sections_again}
use Rattle.wasm_sections.proofs.laws.sections_are_read.Goals as goal

pub returns-clause-found : goal.returns-clause-found
returns-clause-found c = λ last end bytes ss e. sections_found (length bytes) last end bytes ss (omega arith) e

pub returns-clause-only : goal.returns-clause-only
returns-clause-only c = λ last end bytes ss h. sections_again (length bytes) last end bytes ss (omega arith) h
