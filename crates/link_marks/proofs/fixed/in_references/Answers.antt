use Rattle.std.proofs.Common.{◌<◌, ◌≤◌, length, arith, ap, sym, ◌∙◌}
use Rattle.link_program.specs.body_windows.Operands.{operand_of}
use Rattle.link_program.specs.name_meanings.Means.{row_of}
use Rattle.link_marks.specs.Fixed.{fixed_operand}
use Rattle.link_marks.proofs.Fixing.{found_here, none_left}
use Rattle.link_marks.proofs.fixed.in_references.Goals as goal

pub returns-in-Some : goal.returns-in-Some
returns-in-Some c =
    let o = c.args.object.now in
    let row = row_of c.args.resolution.now.rows o.input in
    let refs = c.args.references.now in
    let inside : c.loop-reference.reference-index < length refs = omega arith in
    found_here (λ r. fixed_operand o row (operand_of r)) refs c.loop-reference.reference-index _ c.in-Some.fixed _ inside
    (sym (ap (fixed_operand o row) c.operand.ensures) ∙ sym c.fixed_operand.ensures ∙ c.in-Some.is) c.loop-reference.invariant

pub returns : goal.returns
returns c =
    let o = c.args.object.now in
    let row = row_of c.args.resolution.now.rows o.input in
    let refs = c.args.references.now in
    let past : length refs ≤ c.loop-reference.reference-index = omega arith in
    none_left (λ r. fixed_operand o row (operand_of r)) refs c.loop-reference.reference-index _ past c.loop-reference.invariant
