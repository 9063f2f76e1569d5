use Rattle.std.proofs.Common.{◌≡◌, ◌∙◌}
use Rattle.link_program.specs.Seen.{no_symbol}
use Rattle.wl_each.proofs.Computed.{items_mapped}
use Rattle.link_keys.specs.Asked.{sort_of}
use Rattle.link_keys.proofs.asked.sorts_of.Goals as goal

pub returns : goal.returns
returns g c = c.in_ok-sorts.ensures ∙ items_mapped sort_of no_symbol c.args.symbols.now
