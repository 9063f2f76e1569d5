use Rattle.std.proofs.Common.{arith, ◌<◌, [], ◌∷◌, ◌++◌, length, ap, sym, subst, ◌∙◌, ◌+◌}
use Rattle.name_entries.specs.object_file.declared.object.Object.{Object}
use Rattle.name_meanings.specs.Known.{Resolves}
use Rattle.name_meanings.proofs.resolving.all_rows.Goals as goal
use Rattle.name_meanings.proofs.Whole.{object_done}

pub loop-object-preserved : goal.loop-object-preserved
loop-object-preserved c =
    let within : c.loop-object.object < length c.args.known.entries.objects.now = omega arith in
    let done = object_done c.args.known c.loop-object.rows c.pad.new.rows c.fill_row.new.row c.loop-object.found c.fill_row.new.found c.loop-object.object c.index-known-object.result
    c.loop-object.invariant within c.index-known-object.is (c.in_ok-pad.ensures.count ∙ ap (λ (o : Object). o.input) (sym c.index-known-object.is)) c.in_ok-pad.ensures.same c.in_ok-fill_row.ensures in
    let pushed = c.in_ok-push-2.ensures.ok ∙ ap (λ r. c.pad.new.rows ++ r ∷ []) c.as_slice-in-loop-object.ensures in
    subst (λ rows. Resolves c.args.known rows c.fill_row.new.found (c.loop-object.object + 1)) (sym pushed) done
