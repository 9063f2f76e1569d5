use Rattle.std.proofs.Common.{◌≡◌, [], ◌∷◌, false, length}
use Rattle.wasm_instr.specs.Bodies.{code_at}
use Rattle.valid_rules.specs.Reading.{whole}
use Rattle.body_check.specs.Judging.{judged}
use Rattle.body_check.proofs.typing.judge_code.Given as goal

abbrev pub invariant-loop-alloc : goal.invariant-loop-alloc
invariant-loop-alloc l =
    judged l.context l.kind l.locals l.blocks (code_at (length l.rest) l.end l.opens l.rest)
    ≡ judged l.context l.kind l.locals (whole l.kind.results ∷ []) (code_at (length l.bytes) l.end (false ∷ []) l.bytes)

abbrev pub decreases-loop-alloc : goal.decreases-loop-alloc
decreases-loop-alloc l = length l.rest
