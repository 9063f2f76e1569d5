use Rattle.std.proofs.Common.{◌≡◌, ◌++◌, drop}
use Rattle.std.specs.List.{flat_map}
use Rattle.driver_fields.specs.Own.{export_words}
use Rattle.driver_fields.proofs.own.add_exports.Given as goal

abbrev pub invariant-loop-item : goal.invariant-loop-item
invariant-loop-item l = l.words ++ flat_map (export_words l.lenient) (drop l.item-index l.items) ≡ l.initial.words ++ flat_map (export_words l.lenient) l.items
