use Rattle.std.proofs.Common.{◌≡◌, ◌+◌, ℕ, List, length}
use Rattle.std.specs.Vec.Iter.{into_iter_items}
use Rattle.wl_rows.specs.Ranges.{Rising}
use Rattle.link_layout.specs.declared.gathering.Source.{Source}
use Rattle.link_layout.specs.Seen.{Looked}
use Rattle.link_layout.specs.Parts.{AreWritten}
use Rattle.link_layout.proofs.Divided.{Joining}
use Rattle.link_layout.proofs.sharing.joined.Given as goal

abbrev pub invariant-loop-worker : goal.invariant-loop-worker
invariant-loop-worker l = (k : Looked) (sources : List Source) (cuts : List ℕ) (count : ℕ) → l.workers ≡ length cuts + 1 → count ≡ length sources → Rising cuts count
    → AreWritten k sources cuts count l.fn.slots.items → Joining k sources cuts count l._worker (into_iter_items l.left) l.pieces
