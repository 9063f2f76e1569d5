use Rattle.std.proofs.Common.{◌≡◌, ◌-◌}
use Rattle.std.specs.Prelude.{map}
use Rattle.wasm_module.specs.wasm_instr.wasm_grammar.Reading.{many_at, part_at}
use Rattle.wasm_module.proofs.wasm_instr_lemmas.wasm_grammar_lemmas.Loop.{with_front}
use Rattle.module_front.proofs.parts.parts_at.Given as goal

abbrev pub invariant-loop : goal.invariant-loop
invariant-loop l = with_front (map (λ p. p.now) l.parts) (many_at part_at (l.count - l.counter) l.end l.rest) ≡ many_at part_at l.count l.end l.bytes
