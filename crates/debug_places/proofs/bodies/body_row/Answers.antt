use Rattle.std.proofs.Common.{◌<◌, ◌++◌, ◌∷◌, [], refl, ap, subst, ◌∙◌}
use Rattle.debug_places.specs.Bodies.{bodies_seen, body_of, body_for}
use Rattle.debug_places.proofs.Found.{mapped_more}
use Rattle.debug_places.proofs.bodies.body_row.Goals as goal

pub loop-at-preserved : goal.loop-at-preserved
loop-at-preserved c =
    let seen = bodies_seen c.args.view in
    let o = c.args.o.now in
    let n = c.imported_functions-imported.result in
    mapped_more (body_of seen o.input n) (body_for seen o.input n) (λ s. refl) o.symbols c.loop-at.at (subst (λ n. c.loop-at.at < n) c.len-at-end.ensures c.loop-at-test.true) c.loop-at.row _ _
    (c.in_ok-push.ensures.ok ∙ ap (λ p. c.loop-at.row ++ p ∷ []) (c.in_ok-place.ensures ∙ c.body_for.ensures)) c.loop-at.invariant
