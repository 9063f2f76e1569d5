use Rattle.std.proofs.Common.{◌≡◌, ◌++◌, filter_map, take}
use Rattle.partial_tree.specs.Inits.{init_at}
use Rattle.partial_tree.proofs.inits.put_all.Given as goal

abbrev pub invariant-loop-init : goal.invariant-loop-init
invariant-loop-init l = l.inits ≡ l.fn.inits ++ filter_map (init_at l.standing l.entries.names.now.names l.entries.objects.now l.object l.start) (take l.init-index l.more)
