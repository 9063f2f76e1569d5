use Rattle.std.proofs.Common.{◌≡◌, take}
use Rattle.sym_parts.specs.Keys.{with_nulls}
use Rattle.sym_parts.proofs.nulls.add_nulls.Given as goal

abbrev pub invariant-loop-named : goal.invariant-loop-named
invariant-loop-named l = l.held.keys ≡ with_nulls l.symbols l.fn.held.keys (take l.named-index l.row)
