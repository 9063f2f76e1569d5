use Rattle.std.proofs.Common.{◌≡◌, false, take, length, replicate}
use Rattle.shared_keys.specs.Called.{flag_parts}
use Rattle.shared_keys.proofs.called.called_imports.Given as goal

abbrev pub invariant-loop-number : goal.invariant-loop-number
invariant-loop-number l = l.flags.items ≡ flag_parts l.program.tables.now (replicate (length l.program.resolution.now.imports) false) (take l.number-index l.live)
