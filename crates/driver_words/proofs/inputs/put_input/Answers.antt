use Rattle.std.proofs.Common.{◌≡◌, ℕ, List, Option, IsTrue, ap, ◌∙◌}
use Rattle.std.proofs.lemmas.Result.{IfOk-weaker}
use Rattle.driver_table.specs.Cut.{behind}
use Rattle.driver_texts.specs.Paths.{plain}
use Rattle.driver_words.specs.Start.{started}
use Rattle.driver_words.specs.Inputs.{outcome, opened_of}
use Rattle.driver_words.proofs.Worlds.{put_behind}
use Rattle.driver_words.proofs.inputs.put_input.Goals as goal

pub returns-clause-words : goal.returns-clause-words
returns-clause-words g c =
    let old = g.F.Shelf.shown c.args.shelf.now in
    let mid = g.F.Shelf.shown c.start.new.shelf in
    let folders = c.args.folders.now in
    let input = c.in_ok-input.input in
    let is = started old.held folders (plain c.args.path.now) in
    IfOk-weaker c.put.result _ _
    (λ (refusal : Option (List ℕ)) (h : IsTrue mid.tells → outcome refusal c.put.new.words ≡ behind c.args.words.now (opened_of mid.held c.args.within input)).
    put_behind old mid c.args.within input is c.args.words.now (outcome refusal c.put.new.words) c.start.ensures.same c.start.ensures.grows
    (λ tells. c.in_ok-input.ensures.word tells ∙ ap (λ (p : List ℕ). started old.held folders p) c.in_ok-word.ensures) h)
    c.put.ensures.words
