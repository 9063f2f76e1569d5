use Rattle.std.proofs.Common.{◌≡◌, take}
use Rattle.link_words.specs.Fields.{open_group}
use Rattle.link_words.proofs.fields.open_group.Given as goal

abbrev pub invariant-loop-item : goal.invariant-loop-item
invariant-loop-item l = l.open ≡ open_group (take l.item-index l.items)
