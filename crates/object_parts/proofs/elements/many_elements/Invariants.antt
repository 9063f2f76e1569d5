use Rattle.std.proofs.Common.{◌≡◌, ◌-◌, false}
use Rattle.wasm_instr.specs.wasm_grammar.Reading.{many_at}
use Rattle.wasm_instr.proofs.wasm_grammar_lemmas.Loop.{with_front}
use Rattle.wasm_module.specs.PartReading.{element_at}
use Rattle.object_parts.proofs.elements.many_elements.Given as goal

abbrev pub invariant-loop : goal.invariant-loop
invariant-loop l = with_front l.elements (many_at (element_at false) (l.count - l.counter) l.end l.rest) ≡ many_at (element_at false) l.count l.end l.bytes
