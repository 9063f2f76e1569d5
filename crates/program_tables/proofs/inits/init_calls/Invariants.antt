use Rattle.std.proofs.Common.{◌≡◌, take, map}
use Rattle.program_tables.specs.Inits.{named_of}
use Rattle.program_tables.proofs.inits.init_calls.Given as goal

abbrev pub invariant-loop-call : goal.invariant-loop-call
invariant-loop-call l = l.named ≡ map named_of (take l.call-index l.call-items)
