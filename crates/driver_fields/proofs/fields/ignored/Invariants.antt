use Rattle.std.proofs.Common.{◌≡◌, take}
use Rattle.driver_fields.specs.Fields.{ignored}
use Rattle.driver_fields.proofs.fields.ignored.Given as goal

abbrev pub invariant-loop-item : goal.invariant-loop-item
invariant-loop-item l = l.now ≡ ignored (take l.item-index l.items)
