use Rattle.std.proofs.Common.{◌≡◌, drop}
use Rattle.link_program.specs.body_windows.Operands.{operand_of}
use Rattle.link_program.specs.name_meanings.Means.{row_of}
use Rattle.link_marks.specs.Fixed.{first_by, fixed_operand}
use Rattle.link_marks.proofs.fixed.in_references.Given as goal

abbrev pub invariant-loop-reference : goal.invariant-loop-reference
invariant-loop-reference l =
    first_by (λ r. fixed_operand l.object (row_of l.resolution.rows l.object.input) (operand_of r)) (drop l.reference-index l.references)
    ≡ first_by (λ r. fixed_operand l.object (row_of l.resolution.rows l.object.input) (operand_of r)) l.references
