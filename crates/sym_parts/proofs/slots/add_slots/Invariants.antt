use Rattle.std.proofs.Common.{◌≡◌, ◌++◌, map, drop}
use Rattle.sym_parts.specs.Data.{taker_place}
use Rattle.sym_parts.proofs.slots.add_slots.Given as goal

abbrev pub invariant-loop-taker : goal.invariant-loop-taker
invariant-loop-taker l = l.slots ++ map (taker_place l.functions l.output) (drop l.taker-index l.takers) ≡ l.fn.slots ++ map (taker_place l.functions l.output) l.takers
