use Rattle.std.proofs.Common.{◌≡◌, ◌++◌, filter, take}
use Rattle.sym_parts.specs.Data.{is_so}
use Rattle.sym_parts.proofs.segments.add_some.Given as goal

abbrev pub invariant-loop-number : goal.invariant-loop-number
invariant-loop-number l = l.numbers.items ≡ l.fn.numbers.items ++ filter (is_so l.tables l.files l.zero) (take l.number-index l.segments)
