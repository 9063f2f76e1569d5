use Rattle.std.proofs.Common.{ap, arith}
use Rattle.live_mark.proofs.rounds.round_from.Goals as goal

pub new-share-requires-clause-round : goal.new-share-requires-clause-round
new-share-requires-clause-round g c κs within =
    let parts = c.parts_of-parts.ensures in
    let workers = c.requires.workers in
    let was = ap (λ v. v.width) c.requires.picked in
    record { some = parts.0; few = omega arith; wide = omega arith; plan = c.requires.plan }
