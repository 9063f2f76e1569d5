use Rattle.std.proofs.Common.{◌≡◌, ◌++◌, Bool, ◌∷◌, [], codes, ap, ◌∙◌}
use Rattle.driver_table.specs.declared.meaning.Meaning.TheVariants.{ExportDynamic, NoExportDynamic, ExportTable}
use Rattle.driver_fields.specs.Fields.{has, is_on, is_shared, allows_undefined}
use Rattle.driver_fields.specs.Own.{when, name_switches}
use Rattle.driver_fields.proofs.Joined.{three}
use Rattle.driver_fields.proofs.own.add_name_switches.Goals as goal

pub returns : goal.returns
unfolding name_switches
returns c =
    let items = c.args.items.now in
    let words = c.args.words.now in
    let one = c.add_when.new.words in
    let two = c.add_when-2.new.words in
    let dynamic : one ≡ words ++ when (is_on ExportDynamic NoExportDynamic (is_shared items) items) (codes "--export-dynamic" ∷ []) =
    c.in_ok-add_when.ensures
    ∙ ap (λ (b : Bool). words ++ when b (codes "--export-dynamic" ∷ [])) (c.is_on-dynamic.ensures ∙ ap (λ (b : Bool). is_on ExportDynamic NoExportDynamic b items) c.is_shared-shared.ensures) in
    let table : two ≡ one ++ when (has ExportTable items) (codes "--export-table" ∷ []) =
    c.in_ok-add_when-2.ensures ∙ ap (λ (b : Bool). one ++ when b (codes "--export-table" ∷ [])) c.has-table.ensures in
    let allowed : c.add_when-3.new.words ≡ two ++ when (allows_undefined items) (codes "--allow-undefined" ∷ []) =
    c.in_ok-add_when-3.ensures ∙ ap (λ (b : Bool). two ++ when b (codes "--allow-undefined" ∷ [])) c.allows_undefined.ensures in
    three words _ _ _ one two c.add_when-3.new.words dynamic table allowed
