use Rattle.std.proofs.Common.{arith}
use Rattle.body_windows.proofs.Passing.{passes_number}
use Rattle.body_windows.proofs.named.pass_number.Goals as goal

pub returns : goal.returns
returns c = λ nest some.
    rw c.counted.ensures (passes_number c.args.from c.args.bytes.now c.args.merger.now nest c.args.course c.args.mid c.number_len-len.result c.args.kind
    c.requires.stands some c.requires.behind c.if-mid-course.false c.requires.counted (c.number_len-len.ensures.number (omega (arith, c.if-len-eq0.false))) c.requires.ends)
