use Rattle.std.proofs.Common.{Some, None, sym, ap, ◌∙◌}
use Rattle.std.specs.Option.{option_map, option_copied}
use Rattle.name_rules.specs.object_file.linking_section.declared.symbol.SymbolKind.TheVariants.{GlobalVar}
use Rattle.name_rules.specs.object_file.object_columns.Seen.{import_seen}
use Rattle.name_entries.proofs.Indexed.{imported_one, defined_one}
use Rattle.name_entries.proofs.spaces.known_global.Goals as goal

pub returns-in_err-global : goal.returns-in_err-global
returns-in_err-global c =
    c.from_residual-in_err-global.ensures
    ∙ defined_one c.args.from.now c.args.places.now.globals c.args.index c.len-imported.result None
    (c.requires GlobalVar) c.len-imported.ensures c.if-at-imported.false
    (ap option_copied (sym c.in_err-global.was) ∙ c.get.ensures)

pub returns-in_ok-import : goal.returns-in_ok-import
returns-in_ok-import c =
    c.imported_global.ensures
    ∙ imported_one c.args.from.now c.args.places.now.globals c.args.index c.len-imported.result (import_seen c.in_ok-import.import)
    (c.requires GlobalVar) c.len-imported.ensures c.if-at-imported.true
    (ap (option_map import_seen) (sym c.in_ok-import.was) ∙ c.import_at.ensures)

pub returns-in_ok-global : goal.returns-in_ok-global
returns-in_ok-global c =
    defined_one c.args.from.now c.args.places.now.globals c.args.index c.len-imported.result (Some c.in_ok-global.global.now)
    (c.requires GlobalVar) c.len-imported.ensures c.if-at-imported.false
    (ap option_copied (sym c.in_ok-global.was) ∙ c.get.ensures)
