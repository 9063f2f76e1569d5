use Rattle.std.proofs.Common.{◌∙◌}
use Rattle.link_loader.proofs.Standing.{stands}
use Rattle.link_image.proofs.Whole.{image_is}
use Rattle.link_image.proofs.making.image.Goals as goal

pub returns : goal.returns
returns g c =
    c.in_ok-image.ensures
    ∙ image_is g.s.program g.s.parts g.s.exports c.args.layout (stands g.s.program g.s.parts g.s.exports c.args.layout c.requires.0) c.args.live.now c.requires.1.0 c.requires.1.1.0
