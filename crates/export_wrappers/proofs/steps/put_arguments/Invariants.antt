use Rattle.std.proofs.Common.{◌≡◌, ◌++◌, ◌-◌}
use Rattle.std.specs.Prelude.{flat_map}
use Rattle.export_wrappers.specs.Wrapped.{arguments, step_bytes}
use Rattle.export_wrappers.proofs.steps.put_arguments.Given as goal

abbrev pub invariant-loop-local : goal.invariant-loop-local
invariant-loop-local l = l.to ++ flat_map step_bytes (arguments l.local (l.count - l.local)) ≡ l.initial.to ++ flat_map step_bytes (arguments 0 l.count)
