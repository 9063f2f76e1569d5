use Rattle.std.proofs.Common.{◌≡◌, drop, length}
use Rattle.partial_items.specs.Groups.{offered_from, first_inputs}
use Rattle.partial_items.proofs.groups.first_inputs.Given as goal

abbrev pub invariant-loop-object : goal.invariant-loop-object
invariant-loop-object l = offered_from l.entries.names.now.groups l.object l.column.items (drop l.object l.entries.objects.now) ≡ first_inputs (length l.entries.names.now.names) l.entries.names.now.groups l.entries.objects.now
