use Rattle.std.proofs.Common.{rules}
use Rattle.link_program.specs.made_symbols.declared.mode.Mode.TheVariants.{Plain}
use Rattle.link_layout.specs.Layout.{IsLayoutIn}
use Rattle.sym_world.proofs.Composed.{world_is}
use Rattle.sym_world.proofs.objects.world.Goals as goal

pub returns : goal.returns
returns g c =
    let layout : IsLayoutIn Plain g.s.program g.s.parts g.s.exports c.args.layout = search rules in
    world_is g.s.program g.s.parts g.s.exports c.args.layout layout c.args.k (search rules) c.in_ok-functions.functions c.in_ok-functions.ensures
    c.in_ok-table.table c.in_ok-table.ensures c.in_ok-exports.exports c.in_ok-exports.ensures c.in_ok-most.most c.in_ok-most.ensures
