use Rattle.std.proofs.Common.{◌+◌, arith}
use Rattle.leb_codec.specs.declared.fault.LebFault.TheVariants.{Short, Long}
use Rattle.leb_codec.proofs.Ends.{goes_on, ends_here, too_long, too_short, bits_here, no_bits}
use Rattle.leb_codec.proofs.Values.{bits_more}
use Rattle.leb_codec.proofs.reading.joined.Goals as goal

pub returns-then-i-greatest-clause-value : goal.returns-then-i-greatest-clause-value
returns-then-i-greatest-clause-value c =
    no_bits c.args.bytes.now Long _ (too_long c.args.bytes.now c.args.greatest c.loop-i.i _ (omega arith) c.loop-i.invariant.so_far)

pub returns-then-byte-lt128-clause-value : goal.returns-then-byte-lt128-clause-value
returns-then-byte-lt128-clause-value c =
    bits_here c.args.bytes.now (c.loop-i.i + 1) _ _ (ends_here c.args.bytes.now c.args.greatest c.loop-i.i _ (omega arith) (omega arith) (omega arith) c.loop-i.invariant.so_far)
    (bits_more c.args.bytes.now c.loop-i.bits c.from.result c.loop-i.i (omega arith) (omega arith) c.loop-i.invariant.joined c.from.ensures)

pub loop-i-preserved : goal.loop-i-preserved
loop-i-preserved c = record {
  within = omega arith;
  so_far = goes_on c.args.bytes.now c.args.greatest c.loop-i.i _ (omega arith) (omega arith) (omega arith) c.loop-i.invariant.so_far;
  joined = bits_more c.args.bytes.now c.loop-i.bits c.from.result c.loop-i.i (omega arith) (omega arith) c.loop-i.invariant.joined c.from.ensures;
}

pub returns-then-bytes-greatest-clause-value : goal.returns-then-bytes-greatest-clause-value
returns-then-bytes-greatest-clause-value c =
    no_bits c.args.bytes.now Short _ (too_short c.args.bytes.now c.args.greatest c.loop-i.i _ (omega arith) (omega arith) c.loop-i.invariant.so_far)

pub returns-else-bytes-greatest-clause-value : goal.returns-else-bytes-greatest-clause-value
returns-else-bytes-greatest-clause-value c =
    no_bits c.args.bytes.now Long _ (too_long c.args.bytes.now c.args.greatest c.loop-i.i _ (omega arith) c.loop-i.invariant.so_far)
