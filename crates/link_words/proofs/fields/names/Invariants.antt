use Rattle.std.proofs.Common.{◌≡◌, ◌++◌, drop}
use Rattle.link_words.specs.Fields.{texts}
use Rattle.link_words.proofs.fields.names.Given as goal

abbrev pub invariant-loop-item : goal.invariant-loop-item
invariant-loop-item l = l.names ++ texts l.kind (drop l.item-index l.items) ≡ texts l.kind l.items
