use Rattle.std.proofs.Common.{length}
use Rattle.body_check.specs.Passing.{Passes}
use Rattle.body_check.proofs.branching.types_plainly.Given as goal

abbrev pub invariant-loop-there : goal.invariant-loop-there
invariant-loop-there l = Passes l.context l.kind l.locals l.end l.fn.blocks l.bytes l.blocks l.rest

abbrev pub decreases-loop-there : goal.decreases-loop-there
decreases-loop-there l = length l.rest
