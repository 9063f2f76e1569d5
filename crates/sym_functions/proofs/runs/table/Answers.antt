use Rattle.std.proofs.Common.{rules}
use Rattle.link_program.specs.made_symbols.declared.mode.Mode.TheVariants.{Plain}
use Rattle.link_image.specs.link_layout.Layout.{IsLayoutIn}
use Rattle.sym_functions.proofs.Composed.{table_is}
use Rattle.sym_functions.proofs.runs.table.Goals as goal

pub returns : goal.returns
returns g c =
    let layout : IsLayoutIn Plain g.s.program g.s.parts g.s.exports c.args.layout = search rules in
    table_is g.s.program g.s.parts g.s.exports c.args.layout layout c.args.k (search rules) c.in_ok-table.table c.in_ok-table.ensures
