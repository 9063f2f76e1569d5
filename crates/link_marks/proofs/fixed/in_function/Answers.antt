use Rattle.std.proofs.Common.{sym, ap, ◌∙◌}
use Rattle.std.specs.Option.{option_map}
use Rattle.link_program.specs.object_columns.Seen.{function_seen}
use Rattle.link_program.specs.name_meanings.Means.{row_of}
use Rattle.link_marks.specs.Fixed.{fixed_in}
use Rattle.link_marks.proofs.Fixing.{spread_first}
use Rattle.link_marks.proofs.fixed.in_function.Goals as goal

pub returns-in-Some : goal.returns-in-Some
returns-in-Some c =
    let o = c.args.object.now in
    let row = row_of c.args.resolution.now.rows o.input in
    c.in_references.ensures ∙ spread_first o row c.in-Some.function.operands.references.now c.in-Some.function.operands.behind
    ∙ ap (fixed_in o row) (ap (option_map function_seen) (sym c.in-Some.is) ∙ c.get.ensures)
