use Rattle.std.proofs.Common.{◌≡◌, ◌<◌, ◌≤◌, sym, subst, ◌∙◌, rules, arith}
use Rattle.image_emit.specs.Parts.{Rising}
use Rattle.debug_out.proofs.Placed.{starts_rising}
use Rattle.debug_out.proofs.Parts.{first_high, first_low, share_most}
use Rattle.debug_out.proofs.division.Division.first.Goals as goal

pub below-requires : goal.below-requires
below-requires c = let d = c.args.self.now in subst Rising (sym d.placed) (starts_rising d.pieces.now)
