use Rattle.std.proofs.Common.{◌≡◌, take, fold}
use Rattle.called_variants.specs.Marked.{marking}
use Rattle.called_variants.proofs.marks.mark_row.Given as goal

abbrev pub invariant-loop-named : goal.invariant-loop-named
invariant-loop-named l = l.flags ≡ fold (marking l.symbols) l.fn.flags (take l.named-index l.row)
