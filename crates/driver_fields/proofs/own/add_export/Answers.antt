use Rattle.std.proofs.Common.{◌++◌, ℕ, Bool, List, ◌∷◌, [], ap, sym, ◌∙◌}
use Rattle.driver_fields.specs.Own.{export_of}
use Rattle.driver_fields.proofs.own.add_export.Goals as goal

pub returns : goal.returns
unfolding export_of
returns c =
    c.in_ok-push.ensures.ok ∙ ap (λ (text : List ℕ). c.args.words.now ++ text ∷ []) (c.in_ok-text.ensures ∙ c.new.ensures)
    ∙ ap (λ (b : Bool). c.args.words.now ++ export_of b c.args.name.now) (sym c.if-lenient.false)
