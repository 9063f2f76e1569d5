use Rattle.std.proofs.Common.{◌≡◌, ◌-◌}
use Rattle.wasm_instr.proofs.wasm_grammar_lemmas.Loop.{with_front}
use Rattle.wasm_instr.specs.Bodies.{runs_at}
use Rattle.body_check.proofs.locals.runs_at.Given as goal

abbrev pub invariant-loop : goal.invariant-loop
invariant-loop l = with_front l.runs (runs_at (l.count - l.counter) l.before l.end l.rest) ≡ runs_at l.count 0 l.end l.bytes
