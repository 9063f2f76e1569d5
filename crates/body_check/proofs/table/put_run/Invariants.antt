use Rattle.std.proofs.Common.{◌≡◌, ◌++◌, replicate}
use Rattle.body_check.proofs.table.put_run.Given as goal

abbrev pub invariant-loop : goal.invariant-loop
invariant-loop l = l.table ≡ l.initial.table ++ replicate l.counter l.run.kind
