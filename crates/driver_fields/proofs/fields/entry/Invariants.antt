use Rattle.std.proofs.Common.{◌≡◌, take}
use Rattle.driver_fields.specs.Fields.{entry}
use Rattle.driver_fields.proofs.fields.entry.Given as goal

abbrev pub invariant-loop-item : goal.invariant-loop-item
invariant-loop-item l = l.last ≡ entry (take l.item-index l.items)
