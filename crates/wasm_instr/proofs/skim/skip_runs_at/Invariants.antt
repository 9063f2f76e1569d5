use Rattle.std.proofs.Common.{◌≡◌, ◌-◌}
use Rattle.wasm_instr.specs.Bodies.{runs_at}
use Rattle.wasm_instr.specs.Skimming.{rest_of}
use Rattle.wasm_instr.proofs.skim.skip_runs_at.Given as goal

abbrev pub invariant-loop : goal.invariant-loop
invariant-loop l = rest_of (runs_at (l.count - l.counter) l.before l.end l.rest) ≡ rest_of (runs_at l.count 0 l.end l.bytes)
