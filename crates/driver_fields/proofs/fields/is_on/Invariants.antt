use Rattle.std.proofs.Common.{◌≡◌, take}
use Rattle.driver_fields.specs.Fields.{is_on}
use Rattle.driver_fields.proofs.fields.is_on.Given as goal

abbrev pub invariant-loop-item : goal.invariant-loop-item
invariant-loop-item l = l.now ≡ is_on l.on l.off l.start (take l.item-index l.items)
