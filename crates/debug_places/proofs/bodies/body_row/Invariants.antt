use Rattle.std.proofs.Common.{◌≡◌, ◌++◌, map, drop}
use Rattle.debug_places.specs.Bodies.{bodies_seen, body_of}
use Rattle.debug_places.proofs.bodies.body_row.Given as goal

abbrev pub invariant-loop-at : goal.invariant-loop-at
invariant-loop-at l = l.row ++ map (body_of (bodies_seen l.view) l.o.input l.imported) (drop l.at l.o.symbols) ≡ map (body_of (bodies_seen l.view) l.o.input l.imported) l.o.symbols
