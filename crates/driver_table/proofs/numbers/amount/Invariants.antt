use Rattle.std.proofs.Common.{◌≡◌, ◌≤◌, take}
use Rattle.driver_table.specs.Numbers.{amount, too_much}
use Rattle.driver_table.proofs.numbers.amount.Given as goal

abbrev pub invariant-loop-byte : goal.invariant-loop-byte
invariant-loop-byte l = (l.n ≡ amount (take l.byte-index l.text)) × (l.n ≤ too_much)
