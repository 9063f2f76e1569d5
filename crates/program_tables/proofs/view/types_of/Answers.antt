use Rattle.std.proofs.Common.{None, [], sym, ap, ◌∙◌}
use Rattle.std.specs.Option.{option_copied}
use Rattle.link_program.proofs.name_entries_lemmas.Found.{or_else}
use Rattle.program_tables.proofs.view.types_of.Goals as goal

pub returns-in-None : goal.returns-in-None
returns-in-None c = or_else None c.args.types.now c.args.object [] (ap option_copied (sym c.in-None.is) ∙ c.get.ensures)
