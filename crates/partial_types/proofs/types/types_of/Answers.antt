use Rattle.std.proofs.Common.{[], ◌∙◌, fold}
use Rattle.partial_types.specs.Added.{with_open, with_function, with_row}
use Rattle.partial_types.proofs.Merged.{types_are}
use Rattle.partial_types.proofs.types.types_of.Goals as goal

pub returns : goal.returns
returns c = λ p is opens functions.
    let t = c.args.program.tables.now in
    c.in_ok-table.ensures
    ∙ ((λ i. fold (with_row t) (fold (with_function t) (fold (with_open (c.requires.objects i)) [] c.args.opens.now) c.args.functions.now) c.args.functions.now)
    ∙ types_are c.args.program p is c.args.opens.now c.args.functions.now opens functions)
