use Rattle.std.proofs.Common.{drop}
use Rattle.std.specs.Prelude.{◌↔◌}
use Rattle.name_entries.specs.View.{InputsRise}
use Rattle.weak_rules.proofs.inputs.inputs_rise.Given as goal

abbrev pub invariant-loop-object : goal.invariant-loop-object
invariant-loop-object l = InputsRise l.last (drop l.object-index l.objects) ↔ InputsRise 0 l.objects
