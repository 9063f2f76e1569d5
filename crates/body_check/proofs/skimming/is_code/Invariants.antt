use Rattle.std.proofs.Common.{◌≡◌, length}
use Rattle.wasm_instr.specs.Bodies.{code_at}
use Rattle.body_check.specs.Judging.{is_read}
use Rattle.body_check.proofs.skimming.is_code.Given as goal

abbrev pub invariant-loop-rest : goal.invariant-loop-rest
invariant-loop-rest l = is_read (code_at (length l.rest) l.end l.opens l.rest) ≡ is_read (code_at (length l.bytes) l.end l.fn.opens l.bytes)

abbrev pub decreases-loop-rest : goal.decreases-loop-rest
decreases-loop-rest l = length l.rest
