use Rattle.std.proofs.Common.{rules}
use Rattle.image_emit.proofs.Emitted.{bodies_back}
use Rattle.image_emit.proofs.within.lie_in.Goals as goal

pub returns-else-sources_lie-clause-only : goal.returns-else-sources_lie-clause-only
returns-else-sources_lie-clause-only c = λ lie. let all = bodies_back c.args.files.now c.args.image.now lie in search (rules, all)
