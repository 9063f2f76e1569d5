use Rattle.std.proofs.Common.{arith, ◌∙◌, length, Option, sym, subst}
use Rattle.std.proofs.lemmas.Grind.{common_steps}
use Rattle.link_words.specs.Cut.{WaitsBelow, IsPlaced}
use Rattle.link_words.specs.Items.{Said}
use Rattle.link_words.proofs.Placed.{nothing, something}
use Rattle.link_words.proofs.cut.cut_words.Goals as goal
use Rattle.link_words.proofs.cut.cut_words.Goals.{in-Some+in_ok-push-in-Ok, in_default}

pub loop-at-preserved : goal.loop-at-preserved
loop-at-preserved c =
    let placed : IsPlaced (length c.args.words.now) (c.in-Ok.item, c.in-Ok.then) = c.in-Ok.ensures.placed (length c.args.words.now) c.loop-at-test.true c.loop-at.invariant.placed.waits in
    record {
      cut = grind (arith, common_steps);
      placed = elim c.match-item.branch [
        | in-Some+in_ok-push-in-Ok w ↦
            let both = subst (λ (i : Option Said). IsPlaced (length c.args.words.now) (i, c.in-Ok.then)) w.in-Some.is placed in
            something (length c.args.words.now) c.loop-at.at c.loop-at.next c.match-item.next c.loop-at.items c.match-item.items w.in-Some.item c.loop-at.invariant.placed
            (w.items-is ∙ w.in_ok-push-in-Ok.ensures.ok) both.0 (subst (WaitsBelow (length c.args.words.now)) (sym w.next-is) both.1)
        | in_default w ↦ nothing (length c.args.words.now) c.loop-at.at c.loop-at.next c.match-item.next c.loop-at.items c.match-item.items c.loop-at.invariant.placed w.items-is (subst (WaitsBelow (length c.args.words.now)) (sym w.next-is) placed.1)
      ];
    }
