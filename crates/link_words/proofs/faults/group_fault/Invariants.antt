use Rattle.std.proofs.Common.{◌≡◌, drop, None}
use Rattle.link_words.specs.Faults.{group_fault}
use Rattle.link_words.proofs.faults.group_fault.Given as goal

abbrev pub invariant-loop-item : goal.invariant-loop-item
invariant-loop-item l = group_fault l.within (drop l.item-index l.items) ≡ group_fault None l.items
