use Rattle.std.proofs.Common.{◌≡◌, ◌≤◌, length, get_or, slice_get, [], Some, sym, ap, ◌∙◌, arith}
use Rattle.std.proofs.lemmas.Option.{slice_get-get_or}
use Rattle.partial_items.specs.Lent.{places_seen}
use Rattle.partial_items.proofs.Turns.{one_group, groups_end}
use Rattle.partial_items.proofs.groups.Won.add.Goals as goal

pub loop-place-preserved : goal.loop-place-preserved
loop-place-preserved c =
    let l = c.in-Some.ensures.lookup in
    let at : slice_get c.args.groups.now c.loop-place.place ≡ Some c.in-Some.group.now = slice_get-get_or c.args.groups.now c.loop-place.place c.in-Some.group.now l.3.0 ∙ ap Some (sym l.1) in
    one_group (places_seen c.args.places) c.args.winners.now c.args.owner c.args.groups.now (get_or c.args.names.now.groups c.args.owner.object []) _ _ _ c.loop-place.place c.in-Some.group.now c.in-Some-group.number
    at (sym c.in-Some-group.ensures) c.in_ok-offer.ensures c.loop-place.invariant

pub returns : goal.returns
returns c =
    let past : length (get_or c.args.names.now.groups c.args.owner.object []) ≤ c.loop-place.place = omega (arith, c.loop-place-test.false, c.groups-place-end.ensures) in
    groups_end (places_seen c.args.places) c.args.winners.now c.args.owner c.args.groups.now (get_or c.args.names.now.groups c.args.owner.object []) _ _ c.loop-place.place past c.loop-place.invariant
