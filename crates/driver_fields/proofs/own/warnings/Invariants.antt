use Rattle.std.proofs.Common.{◌≡◌, ◌++◌, drop}
use Rattle.driver_fields.specs.Own.{warnings}
use Rattle.driver_fields.proofs.own.warnings.Given as goal

abbrev pub invariant-loop-item : goal.invariant-loop-item
invariant-loop-item l = l.lines ++ warnings (drop l.item-index l.items) ≡ warnings l.items
