use Rattle.std.proofs.Common.{◌≡◌, ◌++◌, ◌&&◌, map, filter, filter_map, take, slice_get}
use Rattle.link_keys.specs.Lists.{datum_listed}
use Rattle.link_keys.proofs.lists.push_data.Given as goal

abbrev pub invariant-loop-winner : goal.invariant-loop-winner
invariant-loop-winner l = l.keys.items ≡ l.fn.keys.items ++ filter_map datum_listed (take l.winner-index l.exports)
