use Rattle.std.proofs.Common.{◌≡◌, fold, take}
use Rattle.partial_tree.specs.Rows.{with_at, nothing_made}
use Rattle.partial_tree.specs.Looks.{look_seen}
use Rattle.partial_tree.proofs.symbols.made_of.Given as goal

abbrev pub invariant-loop-at : goal.invariant-loop-at
invariant-loop-at l = l.made ≡ fold (with_at (look_seen l.look) l.entries.names.now.names l.entries.objects.now) nothing_made (take l.at-index l.symbols)
