use Rattle.std.proofs.Common.{None, sym, ap, ◌∙◌}
use Rattle.std.specs.Option.{option_map}
use Rattle.name_rules.specs.object_file.object_columns.Seen.{func_type_seen}
use Rattle.name_rules.specs.object_file.Spaces.{no_type}
use Rattle.name_entries.proofs.Found.{or_else}
use Rattle.name_entries.proofs.spaces.written_type.Goals as goal

pub returns-in-None : goal.returns-in-None
returns-in-None c = or_else None c.args.from.now.types c.args.index no_type (ap (option_map func_type_seen) (sym c.in-None.is) ∙ c.get.ensures)
