use Rattle.std.proofs.Common.{rules}
use Rattle.debug_out.specs.Grouped.{sections_len}
use Rattle.debug_out.proofs.Long.{sections_step}
use Rattle.debug_out.proofs.measure.sections_len.Goals as goal

pub loop-n-preserved : goal.loop-n-preserved
loop-n-preserved c = λ ds has.
    sections_step c.args.names.now.names ds c.loop-n.n c.loop-n.total c.in-Some.len c.in-Some-checked_add.sum (sections_len ds c.args.names.now.names)
    (search rules) (λ name at. c.in-Some.ensures ds name at has) (search rules) (c.loop-n.invariant ds has)
