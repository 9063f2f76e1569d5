use Rattle.std.proofs.Common.{◌≡◌, List, ◌++◌, length}
use Rattle.lib_index.specs.Table.{shown}
use Rattle.round_rules.specs.declared.given.GivenObject.{GivenObject}
use Rattle.lib_rounds.specs.Begin.{PutsAll}
use Rattle.lib_rounds.proofs.begin.put_given.Given as goal

abbrev pub invariant-loop-object : goal.invariant-loop-object
invariant-loop-object g l = (done : List GivenObject) × (l.left ++ done ≡ l.fn.given) × PutsAll g.w done l.slots.items (shown l.lazies) (shown l.definers)

abbrev pub decreases-loop-object : goal.decreases-loop-object
decreases-loop-object g l = length l.left
