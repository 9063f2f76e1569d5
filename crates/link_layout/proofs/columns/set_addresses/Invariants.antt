use Rattle.std.proofs.Common.{◌≡◌, drop}
use Rattle.link_layout.specs.Segments.{set_each}
use Rattle.link_layout.proofs.columns.set_addresses.Given as goal

abbrev pub invariant-loop-i : goal.invariant-loop-i
invariant-loop-i l = set_each (drop l.i l.numbers) (drop l.i l.addresses) l.column ≡ set_each l.numbers l.addresses l.fn.column
