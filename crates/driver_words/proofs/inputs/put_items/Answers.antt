use Rattle.std.proofs.Common.{ap, ◌∙◌}
use Rattle.driver_words.specs.Inputs.{inside_after, whole_after}
use Rattle.driver_words.proofs.Held.{same_all, grows_all}
use Rattle.driver_words.proofs.Turns.{is_put, was_refused}
use Rattle.driver_words.proofs.inputs.put_items.Goals as goal

pub returns-in-Some-clause-words : goal.returns-in-Some-clause-words
returns-in-Some-clause-words g c =
    let old = g.F.Shelf.shown c.args.shelf.now in
    let mid = g.F.Shelf.shown c.loop-item.shelf in
    let l = c.loop-item in
    was_refused old mid c.args.folders.now l.inside l.whole c.args.items.now l.item-index c.item-item.result l.words c.put_item.new.words c.in_ok-refusal.refusal c.in-Some.refusal _
    c.loop-item-test.true c.item-item.is l.invariant.0.same l.invariant.0.grows l.invariant.1 c.in_ok-refusal.ensures.words c.in-Some.is

pub loop-item-preserved : goal.loop-item-preserved
loop-item-preserved g c =
    let old = g.F.Shelf.shown c.args.shelf.now in
    let mid = g.F.Shelf.shown c.loop-item.shelf in
    let new = g.F.Shelf.shown c.put_item.new.shelf in
    let l = c.loop-item in
    let kept = l.invariant.0 in
    let said = c.item-item.result in (
      record {
        same = same_all old mid new kept.grows kept.same c.put_item.ensures.same;
        grows = grows_all old mid new kept.grows c.put_item.ensures.grows;
      },
      is_put old mid c.args.folders.now l.inside l.whole c.is_inside_after-inside.result c.is_whole_after-whole.result c.args.items.now l.item-index said l.words c.put_item.new.words c.in_ok-refusal.refusal _
          c.loop-item-test.true c.item-item.is kept.same kept.grows l.invariant.1 c.in_ok-refusal.ensures.words c.in_default.is
          (c.is_inside_after-inside.ensures ∙ ap (λ m. inside_after l.inside m) c.meaning-meaning.ensures)
          (c.is_whole_after-whole.ensures ∙ ap (λ m. whole_after l.whole m) c.meaning-meaning.ensures),
    )
