use Rattle.std.proofs.Common.{◌≡◌, ◌-◌}
use Rattle.body_check.specs.Labels.{all_fit}
use Rattle.body_check.proofs.branching.fit_at.Given as goal

abbrev pub invariant-loop : goal.invariant-loop
invariant-loop l = all_fit l.blocks l.arity (l.count - l.counter) l.end l.rest ≡ all_fit l.blocks l.arity l.count l.end l.labels
