use Rattle.std.proofs.Common.{◌≡◌, ◌++◌, map, drop}
use Rattle.debug_places.specs.Bodies.{bodies_seen, body_row}
use Rattle.debug_places.proofs.bodies.body_rows.Given as goal

abbrev pub invariant-loop-o : goal.invariant-loop-o
invariant-loop-o l = l.rows ++ map (body_row (bodies_seen l.view)) (drop l.o-index l.objects) ≡ map (body_row (bodies_seen l.view)) l.objects
