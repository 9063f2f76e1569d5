use Rattle.std.proofs.Common.{None, sym, ap, ◌∙◌, arith}
use Rattle.std.specs.Option.{option_map}
use Rattle.std.proofs.lemmas.List.{get_or_past}
use Rattle.name_rules.specs.object_file.Spaces.{no_type, written_type, function_types}
use Rattle.name_entries.proofs.Found.{or_else}
use Rattle.name_entries.proofs.symbol_rows.function_type.Goals as goal

pub returns-in-None : goal.returns-in-None
returns-in-None c =
    let o = c.args.from.now in
    get_or_past o.types 4294967295 no_type (omega arith)
    ∙ or_else None (function_types o) c.args.index no_type (ap (option_map (written_type o)) (sym c.in-None.is) ∙ c.type_index.ensures)
