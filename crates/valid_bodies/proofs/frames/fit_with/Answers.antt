use Rattle.std.proofs.Common.{length}
use Rattle.valid_bodies.proofs.Keeping.{target_stands}
use Rattle.valid_bodies.proofs.frames.fit_with.Goals as goal

pub label_in-arity-requires : goal.label_in-arity-requires
label_in-arity-requires c = target_stands c.args.block c.in-Some.target c.args.around.now c.args.last (length c.args.types.now) (length c.args.operands.now.below) (cc) c.requires
