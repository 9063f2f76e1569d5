use Rattle.std.proofs.Common.{◌≡◌, ◌++◌, filter_map, take}
use Rattle.sym_parts.specs.Keys.{own_global}
use Rattle.sym_parts.proofs.listing.push_own_globals.Given as goal

abbrev pub invariant-loop-part : goal.invariant-loop-part
invariant-loop-part l = l.keys.items ≡ l.fn.keys.items ++ filter_map (own_global l.linkers) (take l.part-index l.parts)
