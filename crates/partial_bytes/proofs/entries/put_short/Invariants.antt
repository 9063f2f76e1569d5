use Rattle.partial_bytes.proofs.Shorts.{IsBegun}
use Rattle.partial_bytes.proofs.entries.put_short.Given as goal

abbrev pub invariant-loop-rest : goal.invariant-loop-rest
invariant-loop-rest l = IsBegun l.fn.out l.at l.fn.n l.out l.len l.rest

abbrev pub decreases-loop-rest : goal.decreases-loop-rest
decreases-loop-rest l = l.rest
