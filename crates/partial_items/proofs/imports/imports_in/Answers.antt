use Rattle.std.proofs.Common.{◌∙◌}
use Rattle.partial_items.proofs.Taken.{imports_more}
use Rattle.partial_items.proofs.imports.imports_in.Goals as goal

pub loop-found-preserved : goal.loop-found-preserved
loop-found-preserved c = (
  c.in_ok-import.ensures.types ∙ c.loop-found.invariant.0,
  imports_more c.args.numbers.now _ c.args.entries.objects.now c.args.table c.args.opens.now c.loop-found.found-index _ c.loop-found-test.true _ _ _ c.loop-found.invariant.0 c.in_ok-put.ensures c.in_ok-import.ensures.import
      c.loop-found.invariant.1,
)
