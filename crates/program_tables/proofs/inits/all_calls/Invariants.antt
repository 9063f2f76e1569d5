use Rattle.std.proofs.Common.{◌≡◌}
use Rattle.program_tables.specs.Inits.{calls_upto}
use Rattle.program_tables.proofs.inits.all_calls.Given as goal

abbrev pub invariant-loop-object : goal.invariant-loop-object
invariant-loop-object l = l.calls ≡ calls_upto l.lookups l.object
