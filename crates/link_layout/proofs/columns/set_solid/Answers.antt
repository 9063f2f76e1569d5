use Rattle.std.proofs.Common.{◌≡◌, ◌+◌, Bool, not, List, map, length, get_or, drop, slice_get, Some, option_map, refl, ap, ◌∙◌}
use Rattle.std.proofs.lemmas.Option.{slice_get-get_or, slice_get_read, slice_get_past, slice_get-map}
use Rattle.link_program.specs.memory_layout.declared.rules.SegmentShape.{SegmentShape}
use Rattle.link_layout.specs.Segments.{set_each}
use Rattle.link_layout.proofs.Steps.{set_step, set_past}
use Rattle.link_layout.proofs.columns.set_solid.Goals.{in-Some, in_default}
use Rattle.link_layout.proofs.columns.set_solid.Goals as goal

pub loop-i-preserved : goal.loop-i-preserved
loop-i-preserved c =
    let ns = c.args.numbers.now in
    let f : SegmentShape → Bool = λ (s : SegmentShape). not s.zero in
    let shapes = c.args.shapes.now in
    let xs : List Bool = map f shapes in
    let i = c.loop-i.i in
    let all : List Bool = set_each ns xs c.args.column.now in
    elim c.match-get.branch [
      | in-Some w ↦
          let l = w.in-Some.ensures.lookup in
          let at_n : slice_get ns i ≡ Some (get_or ns i 0) = slice_get-get_or ns i 0 c.loop-i-test.true in
          let at_x : slice_get xs i ≡ Some (not w.in-Some.shape.now.zero) = slice_get-map f shapes i ∙ ap (option_map f) (slice_get_read shapes (length shapes) i w.in-Some.shape.now refl l.3.0 l.1) in
          ap (λ column. set_each (drop (i + 1) ns) (drop (i + 1) xs) column) (w.column-is ∙ w.put.ensures)
          ∙ set_step ns xs c.loop-i.column all i (get_or ns i 0) (not w.in-Some.shape.now.zero) at_n at_x c.loop-i.invariant
      | in_default w ↦
          ap (λ column. set_each (drop (i + 1) ns) (drop (i + 1) xs) column) w.column-is
          ∙ set_past ns xs c.loop-i.column all i (slice_get-map f shapes i ∙ ap (option_map f) (slice_get_past shapes i w.in_default.ensures.lookup.3)) c.loop-i.invariant
    ]
