use Rattle.std.proofs.Common.{◌≡◌, ◌++◌, ◌&&◌, map, filter, filter_map, take, slice_get}
use Rattle.link_keys.specs.Lists.{own_functions}
use Rattle.link_keys.proofs.lists.push_own_functions.Given as goal

abbrev pub invariant-loop-number : goal.invariant-loop-number
invariant-loop-number l = l.keys.items ≡ l.fn.keys.items ++ own_functions l.linkers l.tables (take l.number-index l.live)
