use Rattle.std.proofs.Common.{◌∙◌}
use Rattle.link_layout.specs.Seen.{body_number}
use Rattle.link_layout.specs.Sources.{no_key}
use Rattle.wl_each.proofs.Computed.{items_mapped}
use Rattle.link_layout.proofs.gathering.body_numbers.Goals as goal

pub returns : goal.returns
returns g c =
    let keys = c.args.keys.now in
    let f = body_number c.args.chunks.now in
    c.in_ok-numbers.ensures ∙ items_mapped f no_key keys
