use Rattle.std.proofs.Common.{ap, get_or, ◌∙◌}
use Rattle.link_program.specs.Seen.{no_symbol}
use Rattle.link_layout.specs.Seen.{usual_target}
use Rattle.link_layout.specs.Layout.{looked}
use Rattle.wl_each.specs.Items.{items_from}
use Rattle.wl_each.proofs.Computed.{items_mapped}
use Rattle.link_layout.proofs.usual.looked_up.Goals as goal

pub returns : goal.returns
returns g c =
    let symbols = c.args.layout.program.tables.now.symbols in
    let f = usual_target (looked c.args.layout) in
    c.in_ok-targets.ensures ∙ ap (items_from (λ at. f (get_or symbols at no_symbol)) 0) c.len-count.ensures ∙ items_mapped f no_symbol symbols
