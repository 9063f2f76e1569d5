use Rattle.std.proofs.Common.{length}
use Rattle.body_check.specs.Passing.{Passes}
use Rattle.body_check.proofs.quick.types_quickly.Given as goal

abbrev pub invariant-loop-effect : goal.invariant-loop-effect
invariant-loop-effect l = Passes l.context l.kind l.locals l.end l.fn.blocks l.bytes l.blocks l.rest

abbrev pub decreases-loop-effect : goal.decreases-loop-effect
decreases-loop-effect l = length l.rest
