use Rattle.std.proofs.Common.{◌∙◌}
use Rattle.link_numbers.proofs.PlaceSteps.{place_step, all_places}
use Rattle.sym_parts.proofs.places.Places.new.Goals as goal

pub loop-at-preserved : goal.loop-at-preserved
loop-at-preserved c = λ q. c.in_ok-note.ensures q ∙ place_step c.args.codes.now c.loop-at.at _ q _ _ c.loop-at-test.true (c.loop-at.invariant _) (c.loop-at.invariant q)

pub returns : goal.returns
returns c = λ q. c.loop-at.invariant q ∙ all_places c.args.codes.now c.loop-at.at q c.loop-at.auto.at-end c.loop-at-test.false
