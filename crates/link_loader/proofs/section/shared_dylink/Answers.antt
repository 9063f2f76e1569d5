use Rattle.std.proofs.Common.{rules, ◌≡◌, true, ◌∙◌}
use Rattle.std.specs.List.{list_all}
use Rattle.link_loader.specs.Cells.{all_tell}
use Rattle.link_loader.specs.Bound.{bound_part}
use Rattle.link_loader.proofs.Whole.{dylink_is, made_count}
use Rattle.link_loader.proofs.section.shared_dylink.Goals as goal

pub are_told-requires : goal.are_told-requires
are_told-requires g c = c.requires.0.program.tables.named_there

pub dylink_seen-requires : goal.dylink_seen-requires
dylink_seen-requires g c = made_count g.s c.args.layout c.requires.0 c.requires.1.1

pub returns : goal.returns
returns g c =
    let cells : all_tell c.args.layout.program.names.now.names c.args.layout.program.resolution.now.imports c.args.layout.program.resolution.now.cells 0 c.args.layout.program.tables.now.symbols ≡ true = search rules in
    let windows : list_all (bound_part c.args.layout.program.tables.now) c.args.live.now ≡ true = search rules in
    c.in_ok-d.ensures ∙ dylink_is g.s c.args.layout c.requires.0 c.args.live.now c.requires.1.0 c.requires.1.1 cells windows
