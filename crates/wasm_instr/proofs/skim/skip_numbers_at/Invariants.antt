use Rattle.std.proofs.Common.{◌≡◌, ◌-◌}
use Rattle.wasm_grammar.specs.Reading.{many_at}
use Rattle.wasm_grammar.specs.Reading.{u32_at}
use Rattle.wasm_instr.specs.Skimming.{rest_of}
use Rattle.wasm_instr.proofs.skim.skip_numbers_at.Given as goal

abbrev pub invariant-loop : goal.invariant-loop
invariant-loop l = rest_of (many_at u32_at (l.count - l.counter) l.end l.rest) ≡ rest_of (many_at u32_at l.count l.end l.bytes)
