use Rattle.std.proofs.Common.{arith}
use Rattle.std.proofs.lemmas.Int.{ints}
use Rattle.partial_bytes.proofs.Shorts.{small_long, small_put}
use Rattle.partial_bytes.proofs.entries.put_signed.Goals as goal

pub put_byte-requires : goal.put_byte-requires
put_byte-requires c =
    let long = small_long c.args.n (omega (arith, ints)) (omega (arith, ints)) in
    (omega (arith, long, c.requires.0), c.requires.1)

pub returns-then-n-lt64 : goal.returns-then-n-lt64
returns-then-n-lt64 c = small_put _ _ c.args.n _ _ _ c.put_byte.ensures (omega (arith, ints)) (omega (arith, ints))
