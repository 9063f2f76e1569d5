use Rattle.std.proofs.Common.{slice_get, sym, ap, ◌∙◌}
use Rattle.name_rules.specs.object_file.object_columns.Seen.{symbol_seen}
use Rattle.name_entries.proofs.Told.{import_found, no_import}
use Rattle.name_entries.proofs.symbol_rows.import_of.Goals as goal

pub returns-in_ok-at-in-Some : goal.returns-in_ok-at-in-Some
returns-in_ok-at-in-Some c =
    let here = ap (λ places. slice_get places c.args.symbol.index) (sym c.of_kind.ensures) ∙ sym c.place_at.ensures ∙ c.in-Some.is in
    rw c.in_ok-at-in-Some.ensures (import_found c.args.from.now (symbol_seen c.args.symbol) c.args.imports.now c.in-Some.at c.requires.places c.requires.few here)

pub returns-in-None : goal.returns-in-None
returns-in-None c =
    no_import c.args.from.now (symbol_seen c.args.symbol) c.args.imports.now c.requires.places c.requires.few
    (ap (λ places. slice_get places c.args.symbol.index) (sym c.of_kind.ensures) ∙ sym c.place_at.ensures ∙ c.in-None.is)
