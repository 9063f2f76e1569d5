use Rattle.std.proofs.Common.{◌≡◌, ◌++◌, drop}
use Rattle.run_text.specs.Text.{values_text}
use Rattle.run_text.proofs.values.put_values.Given as goal

abbrev pub invariant-loop-value : goal.invariant-loop-value
invariant-loop-value l = l.to ++ values_text (drop l.value-index l.values) ≡ l.initial.to ++ values_text l.values
