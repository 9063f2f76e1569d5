use Rattle.std.proofs.Common.{◌≡◌, ◌∙◌, Some, slice_get, ap, sym}
use Rattle.std.proofs.lemmas.Option.{slice_get-get_or}
use Rattle.object_rules.specs.Spaces.{imports_of, places_in}
use Rattle.object_rules.specs.Symbols.{field_of}
use Rattle.object_rules.proofs.Found.{found}
use Rattle.object_rules.proofs.names.import_name.Goals as goal

pub returns : goal.returns
returns c =
    let s = c.args.symbol.now in
    let at = c.in_ok-place.place.now in
    let all = c.args.imports.now in
    let look = c.in_ok-place.ensures.lookup in
    let there : slice_get (places_in c.args.places.now s.kind) s.index ≡ Some at =
    ap (λ places. slice_get places s.index) (sym c.of_kind.ensures) ∙ slice_get-get_or c.of_kind.result.now s.index at look.3.0 ∙ ap (λ n. Some n) (sym look.1) in
    c.field_at.ensures ∙ ap field_of (sym (found all (imports_of s.kind all) (places_in c.args.places.now s.kind) s.index at (c.requires s.kind) there))
