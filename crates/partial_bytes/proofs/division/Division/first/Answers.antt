use Rattle.std.proofs.Common.{sym, subst}
use Rattle.image_emit.specs.Parts.{Rising}
use Rattle.partial_bytes.proofs.Placed.{starts_rising}
use Rattle.partial_bytes.proofs.division.Division.first.Goals as goal

pub below-requires : goal.below-requires
below-requires c = let d = c.args.self.now in subst Rising (sym d.placed) (starts_rising d.pieces.now)
