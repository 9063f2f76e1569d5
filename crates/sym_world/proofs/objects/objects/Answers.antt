use Rattle.std.proofs.Common.{◌∙◌, map, refl, sym, ap, rules}
use Rattle.link_program.specs.made_symbols.declared.mode.Mode.TheVariants.{Plain}
use Rattle.link_layout.specs.Layout.{IsLayoutIn}
use Rattle.sym_functions.specs.sym_parts.Data.{cell_seen}
use Rattle.sym_world.specs.Choosing.{IsStage}
use Rattle.sym_world.proofs.CellsTold.{cells_told}
use Rattle.sym_world.proofs.Composed.{objects_is}
use Rattle.sym_world.proofs.objects.objects.Goals as goal

pub world-requires : goal.world-requires
world-requires g c =
    let layout : IsLayoutIn Plain g.s.program g.s.parts g.s.exports c.args.layout = search rules in (
      layout,
      (
        record { tables = refl; bases = search rules; functions = c.in_ok-functions.ensures; cells = c.in_ok-cells.ensures },
        (search rules, (search rules, (search rules, (search rules, (search rules, search rules))))),
      ),
    )

pub segments-requires : goal.segments-requires
segments-requires g c =
    let layout : IsLayoutIn Plain g.s.program g.s.parts g.s.exports c.args.layout = search rules in (
      layout,
      (record { tables = refl; bases = search rules; functions = c.in_ok-functions.ensures; cells = c.in_ok-cells.ensures }, (search rules, search rules)),
    )

pub returns : goal.returns
returns g c =
    let layout : IsLayoutIn Plain g.s.program g.s.parts g.s.exports c.args.layout = search rules in
    let stage : IsStage g.s = search rules in
    let f = cell_seen c.args.layout.program.tables.now c.args.layout.program.resolution.now.imports c.args.layout.placed.now.places.stack_high in
    let cells = cells_told g.s.program g.s.parts g.s.exports c.args.layout layout c.in_ok-firsts.firsts
    (ap (map f) (sym c.in_ok-cells.ensures) ∙ ap (map f) (sym c.keys.ensures) ∙ c.in_ok-firsts.ensures) in
    objects_is g.s.program g.s.parts g.s.exports c.args.layout layout stage c.in_ok-world.world c.in_ok-world.ensures c.in_ok-firsts.firsts cells c.in_ok-segments.segments c.in_ok-segments.ensures
