use Rattle.std.proofs.Common.{length}
use Rattle.link_image.proofs.passing.Passing.next.Given as goal

abbrev pub decreases-loop-self : goal.decreases-loop-self
decreases-loop-self l = length l.self.live.now
