use Rattle.std.proofs.Common.{arith, ◌≡◌, ◌<◌, ◌+◌, Some, length, ap, sym, subst, ◌∙◌}
use Rattle.std.specs.Prelude.{slice_get}
use Rattle.link_program.specs.object_file.declared.object.Object.{Object}
use Rattle.program_tables.proofs.Steps.{read_at}
use Rattle.program_tables.proofs.Placing.{PlacesUpto, place_more, all_placed}
use Rattle.program_tables.proofs.objects.places_by_input.Goals as goal

pub loop-object-preserved : goal.loop-object-preserved
loop-object-preserved c =
    let objects = c.args.entries.objects.now in
    let o = c.index-entries-object.result in
    let within : c.loop-object.object < length objects = omega (arith, c.count-object-end.ensures, c.loop-object-test.true) in
    let at : slice_get objects c.loop-object.object ≡ Some o = read_at objects c.loop-object.object o within c.index-entries-object.is in
    subst (λ ps. PlacesUpto objects ps (c.loop-object.object + 1)) (sym c.in_ok-push-2.ensures.ok)
    (place_more objects c.loop-object.places c.pad.new.places c.loop-object.object o c.loop-object.invariant at
    (c.in_ok-pad.ensures.count ∙ ap (λ (x : Object). x.input) (sym c.index-entries-object.is)) c.in_ok-pad.ensures.same)

pub returns : goal.returns
returns c =
    all_placed c.args.entries.objects.now c.loop-object.places c.loop-object.object c.loop-object.invariant (omega (arith, c.count-object-end.ensures, c.loop-object-test.false))
