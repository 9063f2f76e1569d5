use Rattle.std.proofs.Common.{◌≡◌, ◌∙◌}
use Rattle.link_program.specs.declared.symbol.Symbol.{Symbol}
use Rattle.link_program.specs.Seen.{no_symbol}
use Rattle.wl_each.proofs.Computed.{items_mapped}
use Rattle.link_marks.specs.Seen.{led_number}
use Rattle.link_marks.proofs.chunks.numbers_led.Goals as goal

pub returns : goal.returns
returns g c = c.in_ok-led.ensures ∙ items_mapped (λ (s : Symbol). led_number c.args.chunks.now s.lead) no_symbol c.args.symbols.now
