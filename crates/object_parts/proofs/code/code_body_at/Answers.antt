use Rattle.std.proofs.Common.{arith}
use Rattle.object_parts.proofs.Sections.{part_fits}
use Rattle.object_parts.proofs.code.code_body_at.Goals as goal

pub body_in-requires-clause-place : goal.body_in-requires-clause-place
body_in-requires-clause-place c =
    let fits = part_fits c.args.end c.args.bytes.now c.in_ok-part.part.now c.in_ok-part.rest.now c.in_ok-part.ensures in
    rw c.span_before-span.ensures (omega (arith, fits, c.requires.within, c.requires.few))

pub body_in-requires-clause-len : goal.body_in-requires-clause-len
body_in-requires-clause-len c =
    omega (arith, part_fits c.args.end c.args.bytes.now c.in_ok-part.part.now c.in_ok-part.rest.now c.in_ok-part.ensures, c.requires.within, c.requires.few)

pub returns-clause-shorter : goal.returns-clause-shorter
returns-clause-shorter c = omega (arith, part_fits c.args.end c.args.bytes.now c.in_ok-part.part.now c.in_ok-part.rest.now c.in_ok-part.ensures)
