use Rattle.std.proofs.Common.{◌≡◌, None, take, fold, replicate}
use Rattle.partial_symbols.specs.Columns.{won}
use Rattle.partial_symbols.proofs.winners.winners_of.Given as goal

abbrev pub invariant-loop-winner : goal.invariant-loop-winner
invariant-loop-winner l = l.column.items ≡ fold won (replicate l.names None) (take l.winner-index l.winners)
