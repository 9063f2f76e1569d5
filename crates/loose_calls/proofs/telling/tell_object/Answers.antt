use Rattle.std.proofs.Common.{◌≡◌, arith, get_or, [], ◌∷◌, sym, subst, take}
use Rattle.std.proofs.lemmas.List.{take_all}
use Rattle.program_tables.specs.link_program.wl_base.Choice.{distinct_onto}
use Rattle.program_tables.specs.link_program.name_entries.View.{rows_of}
use Rattle.program_tables.proofs.Lists.{at_take}
use Rattle.program_tables.proofs.Steps.{item_at, some_at}
use Rattle.mismatch_rules.specs.Mismatches.{same_call}
use Rattle.loose_calls.specs.Told.{told_of}
use Rattle.loose_calls.proofs.Listing.{of_more}
use Rattle.loose_calls.proofs.telling.tell_object.Goals as goal

pub tell_symbol-requires : goal.tell_symbol-requires
tell_symbol-requires g c =
    (c.requires.0, (some_at (get_or (rows_of c.args.asking.entries.objects.now) c.args.object []) c.loop-place.place (omega arith), c.requires.1))

pub loop-place-preserved : goal.loop-place-preserved
loop-place-preserved g c =
    let objects = c.args.asking.entries.objects.now in
    let row = get_or (rows_of objects) c.args.object [] in
    let k = c.loop-place.place in
    let (e, at) = item_at row k (omega arith) in
    subst (λ es. c.tell_symbol.new.told ≡ distinct_onto same_call c.args.told.now (told_of c.args.asking.mode g.allow objects es)) (sym (at_take row k e at))
    (of_more c.args.asking.mode g.allow objects (take k row) (e ∷ []) c.args.told.now c.loop-place.told c.tell_symbol.new.told c.loop-place.invariant (c.in_ok-tell_symbol.ensures e at))

pub returns : goal.returns
returns g c =
    let objects = c.args.asking.entries.objects.now in
    let row = get_or (rows_of objects) c.args.object [] in
    subst (λ es. c.loop-place.told ≡ distinct_onto same_call c.args.told.now (told_of c.args.asking.mode g.allow objects es)) (take_all c.loop-place.place row (omega arith)) c.loop-place.invariant
