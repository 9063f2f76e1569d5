use Rattle.std.proofs.Common.{◌≡◌, drop, ◌++◌}
use Rattle.run_rules.specs.Steps.{fresh}
use Rattle.run_model.proofs.frames.new_frame.Given as goal

abbrev pub invariant-loop-run : goal.invariant-loop-run
invariant-loop-run l = l.all.items ++ fresh (drop l.run-index l.locals) ≡ l.fn.args ++ fresh l.locals
