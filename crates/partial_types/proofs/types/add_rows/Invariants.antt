use Rattle.std.proofs.Common.{◌≡◌, fold, take}
use Rattle.partial_types.specs.Added.{with_row}
use Rattle.partial_types.proofs.types.add_rows.Given as goal

abbrev pub invariant-loop-part : goal.invariant-loop-part
invariant-loop-part l = l.table ≡ fold (with_row l.tables) l.fn.table (take l.part-index l.functions)
