use Rattle.std.proofs.Common.{◌≡◌, false, take, fold, replicate}
use Rattle.called_variants.specs.Marked.{marking}
use Rattle.called_variants.proofs.marks.marks_of.Given as goal

abbrev pub invariant-loop-part : goal.invariant-loop-part
invariant-loop-part l = l.marks.items ≡ fold (λ flags row. fold (marking l.tables.symbols) flags row) (replicate l.names false) (take l.part l.tables.named)
