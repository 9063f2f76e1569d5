use Rattle.std.proofs.Common.{◌≡◌, ◌++◌, filter_map, take}
use Rattle.sym_parts.specs.Keys.{own_function}
use Rattle.sym_parts.proofs.listing.push_own_functions.Given as goal

abbrev pub invariant-loop-part : goal.invariant-loop-part
invariant-loop-part l = l.keys.items ≡ l.fn.keys.items ++ filter_map (own_function l.linkers) (take l.part-index l.parts)
