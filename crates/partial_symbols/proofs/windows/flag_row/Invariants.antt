use Rattle.std.proofs.Common.{◌≡◌, take, fold}
use Rattle.partial_symbols.specs.Columns.{flagged}
use Rattle.partial_symbols.proofs.windows.flag_row.Given as goal

abbrev pub invariant-loop-named : goal.invariant-loop-named
invariant-loop-named l = l.flags ≡ fold (flagged l.symbols) l.fn.flags (take l.named-index l.row)
