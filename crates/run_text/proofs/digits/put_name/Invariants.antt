use Rattle.std.proofs.Common.{◌≡◌, ◌++◌, drop}
use Rattle.std.specs.List.{flat_map}
use Rattle.run_text.specs.Text.{escaped}
use Rattle.run_text.proofs.digits.put_name.Given as goal

abbrev pub invariant-loop-byte : goal.invariant-loop-byte
invariant-loop-byte l = l.to ++ flat_map escaped (drop l.byte-index l.name) ≡ l.initial.to ++ flat_map escaped l.name
