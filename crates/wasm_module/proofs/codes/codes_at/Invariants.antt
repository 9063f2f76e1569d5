use Rattle.std.proofs.Common.{◌≡◌, ◌-◌}
use Rattle.wasm_instr.specs.wasm_grammar.Reading.{many_at}
use Rattle.wasm_instr.proofs.wasm_grammar_lemmas.Loop.{with_front}
use Rattle.wasm_module.specs.ModuleReading.{code_at}
use Rattle.wasm_module.proofs.codes.codes_at.Given as goal

abbrev pub invariant-loop : goal.invariant-loop
invariant-loop l = with_front l.bodies (many_at code_at (l.count - l.counter) l.end l.rest) ≡ many_at code_at l.count l.end l.bytes
