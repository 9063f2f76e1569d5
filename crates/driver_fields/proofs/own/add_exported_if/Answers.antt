use Rattle.std.proofs.Common.{◌++◌, ℕ, List, ◌∷◌, [], codes, ap, ◌∙◌, append_assoc}
use Rattle.driver_table.specs.Texts.{line}
use Rattle.driver_fields.specs.Own.{wanted, exported_if}
use Rattle.driver_fields.proofs.own.add_exported_if.Goals as goal

pub returns : goal.returns
unfolding exported_if
returns c =
    let name = c.args.name.now in
    let last = line (codes "--export-if-defined=") name [] [] in
    c.in_ok-push.ensures.ok
    ∙ ap (λ (text : List ℕ). c.add_wanted.new.words ++ text ∷ []) (c.in_ok-text.ensures ∙ c.new.ensures)
    ∙ ap (λ (words : List (List ℕ)). words ++ last ∷ []) c.in_ok-add_wanted.ensures
    ∙ append_assoc c.args.words.now (wanted name) (last ∷ [])
