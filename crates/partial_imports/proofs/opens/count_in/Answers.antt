use Rattle.std.proofs.Common.{ap, ◌∙◌}
use Rattle.partial_imports.specs.Opens.{one_more}
use Rattle.partial_imports.proofs.Opened.{counted_more}
use Rattle.partial_imports.proofs.opens.count_in.Goals as goal

pub loop-found-preserved : goal.loop-found-preserved
loop-found-preserved c =
    counted_more c.args.kind c.args.opens.now c.loop-found.found-index _ c.loop-found-test.true _ _ (c.in_ok-count.ensures ∙ ap (one_more c.loop-found.count) c.is_of.ensures) c.loop-found.invariant
