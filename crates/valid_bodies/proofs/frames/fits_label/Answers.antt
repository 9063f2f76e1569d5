use Rattle.std.proofs.Common.{length}
use Rattle.valid_bodies.proofs.Keeping.{target_stands}
use Rattle.valid_bodies.proofs.frames.fits_label.Goals as goal

pub label_in-takes-requires : goal.label_in-takes-requires
label_in-takes-requires c = target_stands c.args.block c.in-Some.target c.args.around.now c.args.label (length c.args.types.now) (length c.args.operands.now.below) (cc) c.requires
