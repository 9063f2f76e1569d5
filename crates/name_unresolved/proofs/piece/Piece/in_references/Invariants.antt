use Rattle.std.proofs.Common.{◌≡◌, drop}
use Rattle.name_meanings.specs.name_entries.body_windows.Operands.{operand_of}
use Rattle.name_unresolved.specs.Least.{lesser, least_by}
use Rattle.name_unresolved.specs.Search.{opened_by}
use Rattle.name_unresolved.proofs.piece.Piece.in_references.Given as goal

abbrev pub invariant-loop-reference : goal.invariant-loop-reference
invariant-loop-reference l =
    lesser l.least (least_by (λ r. opened_by l.self (operand_of r)) (drop l.reference-index l.references))
    ≡ least_by (λ r. opened_by l.self (operand_of r)) l.references
