use Rattle.std.proofs.Common.{◌≡◌, take}
use Rattle.std.specs.Option.{option_map}
use Rattle.driver_fields.specs.Fields.{text}
use Rattle.driver_fields.proofs.fields.text.Given as goal

abbrev pub invariant-loop-item : goal.invariant-loop-item
invariant-loop-item l = option_map (λ t. t.now) l.last ≡ text l.meaning (take l.item-index l.items)
