use Rattle.std.proofs.Common.{◌≡◌, ◌++◌, drop}
use Rattle.link_words.specs.Fields.{exports}
use Rattle.link_words.proofs.fields.add_exports.Given as goal

abbrev pub invariant-loop-item : goal.invariant-loop-item
invariant-loop-item l = l.names ++ exports (drop l.item-index l.items) ≡ l.initial.names ++ exports l.items
