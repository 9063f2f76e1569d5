use Rattle.std.proofs.Common.{arith, length, ◌≡◌, ◌<◌, ◌≤◌}
use Rattle.std.proofs.lemmas.List.{length-map}
use Rattle.name_entries.specs.name_rules.Entries.{symbols_of}
use Rattle.name_entries.specs.View.{rows_of}
use Rattle.name_meanings.specs.Further.{AreCellsOf}
use Rattle.name_meanings.proofs.further.all_cells.Goals as goal
use Rattle.name_meanings.proofs.Flattened.{object_step, rows_end}
use Rattle.name_meanings.proofs.Besides.{no_cells}

pub loop-object-preserved : goal.loop-object-preserved
loop-object-preserved c =
    let objects = c.args.known.entries.objects.now in
    let base = c.args.found.now.imports in
    let counted : length (rows_of objects) ≡ length objects = length-map objects (symbols_of objects) in
    let within : c.loop-object.object < length (rows_of objects) = omega (arith, counted, c.count-object-end.ensures, c.loop-object-test.true) in (
      c.in_ok-add_cells.ensures.found,
      object_step (λ es. AreCellsOf c.args.known base es c.loop-object.cells c.loop-object.found) (λ es. AreCellsOf c.args.known base es c.add_cells.new.cells c.add_cells.new.found)
          (rows_of objects) c.loop-object.object within (λ seen so_far. c.in_ok-add_cells.ensures.cells seen base so_far) c.loop-object.invariant.1,
    )

pub returns : goal.returns
returns c =
    let objects = c.args.known.entries.objects.now in
    let counted : length (rows_of objects) ≡ length objects = length-map objects (symbols_of objects) in
    let past : length (rows_of objects) ≤ c.loop-object.object = omega (arith, counted, c.count-object-end.ensures, c.loop-object-test.false) in
    rows_end (λ es. AreCellsOf c.args.known c.args.found.now.imports es c.loop-object.cells c.loop-object.found) objects c.loop-object.object past c.loop-object.invariant.1
