use Rattle.std.proofs.Common.{Some, None, sym, ap, ◌∙◌}
use Rattle.std.specs.Option.{option_map}
use Rattle.name_rules.specs.object_file.linking_section.declared.symbol.SymbolKind.TheVariants.{Function}
use Rattle.name_rules.specs.object_file.object_columns.Seen.{import_seen, function_seen}
use Rattle.name_rules.specs.object_file.Spaces.{written_type}
use Rattle.name_entries.proofs.Indexed.{imported_function, defined_function}
use Rattle.name_entries.proofs.spaces.type_index.Goals as goal

pub returns-in_err-function : goal.returns-in_err-function
returns-in_err-function c =
    let o = c.args.from.now in
    ap (option_map (written_type o)) c.from_residual-in_err-function.ensures
    ∙ defined_function o c.args.places.now.functions c.args.index c.len-imported.result None
    (c.requires Function) c.len-imported.ensures c.if-at-imported.false
    (ap (option_map function_seen) (sym c.in_err-function.was) ∙ c.get.ensures)

pub returns-in_ok-import : goal.returns-in_ok-import
returns-in_ok-import c =
    let o = c.args.from.now in
    ap (option_map (written_type o)) c.imported_type.ensures
    ∙ imported_function o c.args.places.now.functions c.args.index c.len-imported.result (import_seen c.in_ok-import.import)
    (c.requires Function) c.len-imported.ensures c.if-at-imported.true
    (ap (option_map import_seen) (sym c.in_ok-import.was) ∙ c.import_at.ensures)

pub returns-in_ok-function : goal.returns-in_ok-function
returns-in_ok-function c =
    defined_function c.args.from.now c.args.places.now.functions c.args.index c.len-imported.result
    (Some (function_seen c.in_ok-function.function)) (c.requires Function) c.len-imported.ensures c.if-at-imported.false
    (ap (option_map function_seen) (sym c.in_ok-function.was) ∙ c.get.ensures)
