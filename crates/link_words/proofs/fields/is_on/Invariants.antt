use Rattle.std.proofs.Common.{◌≡◌, take}
use Rattle.link_words.specs.Fields.{latest, switch}
use Rattle.link_words.proofs.fields.is_on.Given as goal

abbrev pub invariant-loop-item : goal.invariant-loop-item
invariant-loop-item l = l.now ≡ latest (switch l.on l.off) l.start (take l.item-index l.items)
