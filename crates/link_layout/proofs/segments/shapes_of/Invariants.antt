use Rattle.std.proofs.Common.{◌≡◌, map, take}
use Rattle.link_layout.specs.Segments.{shape_at}
use Rattle.link_layout.proofs.segments.shapes_of.Given as goal

abbrev pub invariant-loop-number : goal.invariant-loop-number
invariant-loop-number l = l.shapes.items ≡ map (shape_at l.tables l.files) (take l.number-index l.numbers)
