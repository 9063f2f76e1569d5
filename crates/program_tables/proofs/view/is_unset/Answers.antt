use Rattle.std.proofs.Common.{false, not, None, sym, ap, ◌∙◌}
use Rattle.std.specs.Option.{option_copied}
use Rattle.link_program.proofs.name_entries_lemmas.Found.{or_else}
use Rattle.program_tables.proofs.view.is_unset.Goals as goal

pub returns-in-None : goal.returns-in-None
returns-in-None c = ap not (or_else None c.args.flags.now c.args.at false (ap option_copied (sym c.in-None.is) ∙ c.get.ensures))
