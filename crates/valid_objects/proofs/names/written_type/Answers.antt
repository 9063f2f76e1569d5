use Rattle.std.proofs.Common.{ap, sym, ◌∙◌}
use Rattle.std.specs.Option.{option_map}
use Rattle.object_file.specs.object_columns.Seen.{func_type_seen}
use Rattle.valid_objects.proofs.Named.{no_type_is}
use Rattle.valid_objects.proofs.names.written_type.Goals as goal

pub returns-in-None : goal.returns-in-None
returns-in-None c = c.no_type.ensures ∙ no_type_is c.args.o.now c.args.index (ap (option_map func_type_seen) (sym c.in-None.is) ∙ c.get.ensures)
