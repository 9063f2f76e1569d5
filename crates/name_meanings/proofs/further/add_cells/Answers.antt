use Rattle.std.proofs.Common.{arith, get_or, [], ◌∷◌, ◌++◌, sym, subst}
use Rattle.name_entries.specs.View.{rows_of}
use Rattle.name_meanings.specs.Further.{AreCellsOf}
use Rattle.name_meanings.proofs.further.add_cells.Goals as goal
use Rattle.name_meanings.proofs.Flattened.{symbol_step, row_end}
use Rattle.name_meanings.proofs.Besides.{cell_more}

pub loop-place-preserved : goal.loop-place-preserved
loop-place-preserved c = (
  c.in_ok-cell_at.ensures.found,
  λ seen base so_far.
      symbol_step (λ es. AreCellsOf c.args.known base es c.loop-place.cells c.loop-place.found) (λ es. AreCellsOf c.args.known base es c.push.new.self c.cell_at.new.found)
      (get_or (rows_of c.args.known.entries.objects.now) c.args.object []) c.loop-place.place seen (omega arith)
      (λ before e at done. subst (λ told. AreCellsOf c.args.known base (before ++ e ∷ []) told c.cell_at.new.found) (sym c.in_ok-push.ensures.ok)
      (cell_more c.args.known base before e c.loop-place.cells c.in_ok-cell_at.field-0 c.loop-place.found c.cell_at.new.found done (c.in_ok-cell_at.ensures.cell e at)))
      (c.loop-place.invariant.1 seen base so_far),
)

pub returns-clause-cells : goal.returns-clause-cells
returns-clause-cells c = λ seen base so_far.
    row_end (λ es. AreCellsOf c.args.known base es c.loop-place.cells c.loop-place.found) (get_or (rows_of c.args.known.entries.objects.now) c.args.object []) c.loop-place.place seen
    (omega arith) (c.loop-place.invariant.1 seen base so_far)
