use Rattle.std.proofs.Common.{arith}
use Rattle.object_parts.proofs.Sections.{count_fits}
use Rattle.object_parts.proofs.code.bodies_at.Goals as goal

pub many_bodies-requires-clause-within : goal.many_bodies-requires-clause-within
many_bodies-requires-clause-within c = omega (arith, c.requires.within, count_fits c.args.end c.args.payload.now c.in_ok-count.count c.in_ok-count.rest.now c.in_ok-count.ensures)
