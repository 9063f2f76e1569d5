use Rattle.std.proofs.Common.{◌≡◌, ◌<◌, length, get_or, rules, sym, ◌∙◌, false}
use Rattle.std.proofs.lemmas.List.{get_or_default}
use Rattle.link_plan.specs.declared.plan.InputWord.{InputWord}
use Rattle.link_words.specs.Words.{word}
use Rattle.link_command.proofs.Loads.{so_far_more, names_more}
use Rattle.link_command.proofs.inputs.load_inputs.Goals as goal

pub loop-input-preserved : goal.loop-input-preserved
loop-input-preserved g c =
    let d : InputWord = record { place = 0; lazy = false; whole = false } in
    let more = so_far_more _ _ _ _ _ _ _ c.loop-input.invariant c.load.ensures.held c.load.ensures.counts c.in-Ok.ensures.bytes in
    let names = names_more (word c.args.words.now) (λ i. i.place) c.as_slice-input-items.result.now c.loop-input.input-index d c.loop-input-test.true in
    let it = c.index-words-input.is in
    let bound : (get_or c.as_slice-input-items.result.now c.loop-input.input-index d).place < length c.args.words.now = search rules in
    let at : word c.args.words.now (get_or c.as_slice-input-items.result.now c.loop-input.input-index d).place ≡ c.as_str.result.now = get_or_default _ _ _ _ bound ∙ sym it ∙ sym c.as_str.ensures in
    rw (names, c.in_ok-push-in-Ok.ensures.ok, at) more
