use Rattle.std.proofs.Common.{◌≡◌, drop}
use Rattle.driver_fields.specs.Values.{values_fault}
use Rattle.driver_fields.proofs.values.values_fault.Given as goal

abbrev pub invariant-loop-item : goal.invariant-loop-item
invariant-loop-item l = values_fault (drop l.item-index l.items) ≡ values_fault l.items
