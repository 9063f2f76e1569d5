use Rattle.std.proofs.Common.{arith}
use Rattle.std.proofs.lemmas.Int.{ints}
use Rattle.partial_bytes.proofs.Shorts.{small_long}
use Rattle.partial_bytes.proofs.entries.signed_size.Goals as goal

pub returns-then-n-lt64-clause-size : goal.returns-then-n-lt64-clause-size
returns-then-n-lt64-clause-size c = small_long c.args.n (omega (arith, ints)) (omega (arith, ints))
