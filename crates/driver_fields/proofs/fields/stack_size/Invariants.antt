use Rattle.std.proofs.Common.{◌≡◌, take}
use Rattle.driver_fields.specs.Fields.{stack_size}
use Rattle.driver_fields.proofs.fields.stack_size.Given as goal

abbrev pub invariant-loop-item : goal.invariant-loop-item
invariant-loop-item l = l.last ≡ stack_size (take l.item-index l.items)
