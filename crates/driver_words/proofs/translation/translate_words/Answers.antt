use Rattle.std.proofs.Common.{◌≡◌, ℕ, List, IsTrue, ap, ◌∙◌}
use Rattle.std.proofs.lemmas.Result.{IfOk-weaker}
use Rattle.driver_words.specs.declared.answer.Answer.{Answer}
use Rattle.driver_words.specs.Expand.{expanded_to}
use Rattle.driver_words.specs.Translated.{expanded_and_answered}
use Rattle.driver_words.proofs.Worlds.{answered_behind}
use Rattle.driver_words.proofs.translation.translate_words.Goals as goal

pub returns-clause-answer : goal.returns-clause-answer
returns-clause-answer g c =
    let old = g.F.Shelf.shown c.args.shelf.now in
    let mid = g.F.Shelf.shown c.expand_all.new.shelf in
    let expanded = c.in_ok-expanded.expanded in
    IfOk-weaker c.answer_expanded.result _ _
    (λ (answer : Answer) (h : IsTrue mid.tells → answer ≡ expanded_and_answered mid.held expanded).
    answered_behind old mid expanded c.args.words.now answer c.expand_all.ensures.same c.expand_all.ensures.grows
    (λ tells. c.in_ok-expanded.ensures.words tells ∙ ap (λ (ws : List (List ℕ)). expanded_to 20 old.held ws) c.in_ok-all.ensures) h)
    c.answer_expanded.ensures.answer
