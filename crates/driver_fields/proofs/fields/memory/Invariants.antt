use Rattle.std.proofs.Common.{◌≡◌, take, None}
use Rattle.std.specs.Option.{option_map}
use Rattle.driver_fields.specs.Fields.{latest, memory_said}
use Rattle.driver_fields.proofs.fields.memory.Given as goal

abbrev pub invariant-loop-item : goal.invariant-loop-item
invariant-loop-item l = option_map (λ t. t.now) l.last ≡ latest (memory_said l.plain l.named) None (take l.item-index l.items)
