-- The exports, by the layout of addresses.
use Rattle.std.specs.Prelude.{List}
use Rattle.link_program.specs.made_symbols.declared.mode.Mode.TheVariants.{Plain}
use Rattle.link_program.specs.name_rules.Entries.{InputSymbol}
use Rattle.link_program.specs.link_rules.Program.{Program}
use Rattle.link_program.specs.link_rules.Marks.{export_name}
use Rattle.link_program.specs.link_rules.Values.{Layout, address_of}
use Rattle.link_program.specs.declared.keys.FunctionKey.{FunctionKey}
use Rattle.link_program.specs.declared.keys.GlobalKey.{GlobalKey}
use Rattle.link_program.specs.Told.{told_definition}
use Rattle.run_rules.specs.declared.world.Exported.{Exported}
use Rattle.sym_functions.specs.sym_parts.Data.{target_seen}

abbrev pub export_seen : Program → Layout → List FunctionKey → List GlobalKey → InputSymbol → Exported
export_seen p l fs gs e = record { name = export_name p e; target = target_seen fs gs (address_of Plain l e) (told_definition e) e.symbol.kind }
