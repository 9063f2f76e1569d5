use Rattle.std.proofs.Common.{◌≡◌, ◌++◌, drop}
use Rattle.std.specs.List.{flat_map}
use Rattle.run_text.specs.Text.{hex2}
use Rattle.run_text.proofs.memory.put_bytes.Given as goal

abbrev pub invariant-loop-byte : goal.invariant-loop-byte
invariant-loop-byte l = l.to ++ flat_map hex2 (drop l.byte-index l.bytes) ≡ l.initial.to ++ flat_map hex2 l.bytes
