use Rattle.std.proofs.Common.{◌≡◌, false, take, fold, replicate}
use Rattle.partial_symbols.specs.Columns.{flagged}
use Rattle.partial_symbols.proofs.windows.named_by.Given as goal

abbrev pub invariant-loop-at : goal.invariant-loop-at
invariant-loop-at l = l.flags.items ≡ fold (fold (flagged l.symbols)) (replicate l.names false) (take l.at l.rows)
