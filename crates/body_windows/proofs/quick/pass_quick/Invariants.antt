use Rattle.std.proofs.Common.{◌+◌, ◌-◌}
use Rattle.body_windows.specs.Quick.{Goes}
use Rattle.body_windows.proofs.quick.pass_quick.Given as goal

abbrev pub invariant-loop-course : goal.invariant-loop-course
invariant-loop-course l = Goes l.from l.bytes l.fn.merger l.fn.opens l.initial.course l.merger l.opens l.course

abbrev pub decreases-loop-course : goal.decreases-loop-course
decreases-loop-course l = l.last + 1 - l.course.at
