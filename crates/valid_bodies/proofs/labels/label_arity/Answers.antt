use Rattle.std.proofs.Common.{length}
use Rattle.valid_bodies.proofs.Targets.{target_here}
use Rattle.valid_bodies.proofs.labels.label_arity.Goals as goal

pub label_in-requires : goal.label_in-requires
label_in-requires c =
    let s = c.blocks-2.inside in
    target_here s.inner c.in-Some.block c.in-Some-block_at.target s.around c.args.label (length s.types) (length s.operands.below) c.in-Some.is c.blocks-2.invariant (cc)
