-- What the cell of the address of a symbol would hold, by the layout of addresses and the numbers.
use Rattle.std.specs.Prelude.{ℕ}
use Rattle.link_program.specs.linking_section.Flags.{kind_code}
use Rattle.link_program.specs.made_symbols.declared.mode.Mode.TheVariants.{Plain}
use Rattle.link_program.specs.link_rules.Values.{Layout, address_of}
use Rattle.link_program.specs.declared.symbol.Symbol.{Symbol}
use Rattle.link_program.specs.Meant.{cell_meant}
use Rattle.link_numbers.specs.Numbered.{Numbered}
use Rattle.link_image.specs.Sections.{cell_seen}

abbrev pub base_seen : Layout → Numbered → Symbol → ℕ
base_seen l n s = cell_seen (address_of Plain l) n (cell_meant (kind_code s.kind) s.lead)
