use Rattle.std.proofs.Common.{◌≡◌, length, take}
use Rattle.image_emit.specs.Put.{capped}
use Rattle.partial_bytes.specs.Written.{entries}
use Rattle.partial_bytes.proofs.entries.entries_size.Given as goal

abbrev pub invariant-loop-x : goal.invariant-loop-x
invariant-loop-x l = l.size ≡ capped (length (entries l.from l.part.numbers.now (take l.x-index l.part.named.now)))
