use Rattle.std.proofs.Common.{false, None, sym, ap, ◌∙◌}
use Rattle.std.specs.Option.{option_copied}
use Rattle.name_entries.proofs.Found.{or_else}
use Rattle.name_entries.proofs.parts.has_flag.Goals as goal

pub returns-in-None : goal.returns-in-None
returns-in-None c = or_else None c.args.flags.now c.args.index false (ap option_copied (sym c.in-None.is) ∙ c.get.ensures)
