use Rattle.std.proofs.Common.{◌≡◌, ◌++◌, ◌&&◌, map, filter, filter_map, take, slice_get}
use Rattle.link_keys.specs.Lists.{is_taken_code}
use Rattle.link_keys.proofs.lists.slots_listed.Given as goal

abbrev pub invariant-loop-key : goal.invariant-loop-key
invariant-loop-key l = l.keys.items ≡ filter (is_taken_code l.taken.keys) (take l.key-index l.functions)
