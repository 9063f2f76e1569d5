use Rattle.std.proofs.Common.{◌≡◌, ◌≤◌, take}
use Rattle.driver_fields.specs.Fields.{number}
use Rattle.driver_table.specs.Numbers.{too_much}
use Rattle.driver_fields.proofs.fields.number.Given as goal

abbrev pub invariant-loop-item : goal.invariant-loop-item
invariant-loop-item l = (l.last ≡ number l.meaning (take l.item-index l.items)) × (l.last ≤ too_much)
