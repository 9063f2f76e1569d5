use Rattle.std.proofs.Common.{◌≡◌, length}
use Rattle.run_rules.specs.Steps.{have_types}
use Rattle.run_model.proofs.host.have_types.Given as goal

abbrev pub invariant-loop-vs : goal.invariant-loop-vs
invariant-loop-vs l = have_types l.vs l.ts ≡ have_types l.values l.types

abbrev pub decreases-loop-vs : goal.decreases-loop-vs
decreases-loop-vs l = length l.vs
