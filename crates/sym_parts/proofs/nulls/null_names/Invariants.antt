use Rattle.std.proofs.Common.{◌≡◌, [], take, fold}
use Rattle.sym_parts.specs.Keys.{with_nulls}
use Rattle.sym_parts.proofs.nulls.null_names.Given as goal

abbrev pub invariant-loop-at : goal.invariant-loop-at
invariant-loop-at l = l.held.keys ≡ fold (with_nulls l.tables.symbols) [] (take l.at l.tables.named)
