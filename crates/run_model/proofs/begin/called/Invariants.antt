use Rattle.std.proofs.Common.{◌≡◌, drop}
use Rattle.run_rules.specs.Runs.{called}
use Rattle.run_model.proofs.begin.called.Given as goal

abbrev pub invariant-loop-e : goal.invariant-loop-e
invariant-loop-e l = called l.world l.call (drop l.e-index l.world.exports) ≡ called l.world l.call l.world.exports
