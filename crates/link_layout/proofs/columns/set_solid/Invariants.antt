use Rattle.std.proofs.Common.{◌≡◌, drop, map, not}
use Rattle.link_layout.specs.Segments.{set_each}
use Rattle.link_layout.proofs.columns.set_solid.Given as goal

abbrev pub invariant-loop-i : goal.invariant-loop-i
invariant-loop-i l = set_each (drop l.i l.numbers) (drop l.i (map (λ s. not s.zero) l.shapes)) l.column ≡ set_each l.numbers (map (λ s. not s.zero) l.shapes) l.fn.column
