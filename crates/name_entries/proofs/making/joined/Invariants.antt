use Rattle.std.proofs.Common.{◌≡◌, ◌+◌, ℕ, List, Option, length}
use Rattle.std.specs.Vec.Iter.{into_iter_items}
use Rattle.name_rules.specs.object_file.declared.object.Object.{Object}
use Rattle.name_entries.specs.Pieces.{AreMade}
use Rattle.name_entries.proofs.Along.{Joining}
use Rattle.name_entries.proofs.making.joined.Given as goal

abbrev pub invariant-loop-worker : goal.invariant-loop-worker
invariant-loop-worker l = (objects : List Object) (names : List (List (Option ℕ))) (cuts : List ℕ) (count : ℕ) → l.workers ≡ length cuts + 1 → AreMade objects names cuts count l.fn.slots.items
    → Joining objects names cuts count l._worker (into_iter_items l.left) l.all
