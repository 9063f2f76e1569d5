use Rattle.std.proofs.Common.{slice_get, sym, ap, ◌∙◌}
use Rattle.name_rules.specs.object_file.object_rules.Spaces.{imports_of, places_in}
use Rattle.name_entries.proofs.Found.{found}
use Rattle.name_entries.proofs.spaces.import_at.Goals as goal

pub returns : goal.returns
returns c =
    let imports = c.args.from.now.imports in
    let here = ap (λ places. slice_get places c.args.index) (sym c.of_kind.ensures) ∙ sym c.place_at.ensures ∙ c.in_ok-at.was in
    c.get.ensures
    ∙ sym (found imports (imports_of c.args.kind imports) (places_in c.args.places.now c.args.kind) c.args.index c.in_ok-at.at
    (c.requires c.args.kind) here)
