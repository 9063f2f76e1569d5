use Rattle.std.proofs.Common.{arith}
use Rattle.partial_bytes.proofs.Shorts.{begins, goes_on, ends}
use Rattle.partial_bytes.proofs.entries.put_short.Goals as goal

pub loop-rest-init : goal.loop-rest-init
loop-rest-init c = begins c.args.out.now c.args.at c.args.n (omega arith) c.requires.0

pub loop-rest-preserved : goal.loop-rest-preserved
loop-rest-preserved c =
    goes_on c.args.out.now c.args.at c.args.n c.loop-rest.out c.loop-rest.len c.loop-rest.rest c.high_byte.result c.requires.0 (omega arith) c.high_byte.ensures
    c.loop-rest.invariant

pub returns : goal.returns
returns c = ends c.args.out.now c.args.at c.args.n c.loop-rest.out c.loop-rest.len c.loop-rest.rest (omega arith) c.loop-rest.invariant
