use Rattle.std.proofs.Common.{◌≡◌, fold, take}
use Rattle.partial_types.specs.Added.{with_window}
use Rattle.partial_types.proofs.types.add_row.Given as goal

abbrev pub invariant-loop-named : goal.invariant-loop-named
invariant-loop-named l = l.table ≡ fold (with_window l.types) l.fn.table (take l.named-index l.row)
