use Rattle.std.proofs.Common.{◌≡◌, ◌≤◌, arith, [], take, sym, subst, length}
use Rattle.std.proofs.lemmas.List.{take_all}
use Rattle.std.specs.Prelude.{flat_map}
use Rattle.program_tables.specs.link_program.wl_base.Choice.{distinct, distinct_onto}
use Rattle.program_tables.specs.link_program.name_rules.Entries.{symbols_of}
use Rattle.program_tables.proofs.Steps.{item_at}
use Rattle.mismatch_rules.specs.Mismatches.{same_call}
use Rattle.loose_calls.specs.Told.{told_of}
use Rattle.loose_calls.proofs.Growing.{flat_one, row_at_place}
use Rattle.loose_calls.proofs.Listing.{of_more}
use Rattle.loose_calls.proofs.telling.tell_all.Goals as goal

pub tell_object-requires : goal.tell_object-requires
tell_object-requires g c = (c.requires, omega (arith, c.count-object-end.ensures, c.loop-object-test.true))

pub loop-object-preserved : goal.loop-object-preserved
loop-object-preserved g c =
    let objects = c.args.asking.entries.objects.now in
    let i = c.loop-object.object in
    let (o, at) = item_at objects i (omega (arith, c.count-object-end.ensures, c.loop-object-test.true)) in
    subst (λ es. c.tell_object.new.told ≡ distinct same_call (told_of c.args.asking.mode g.allow objects es)) (sym (flat_one (symbols_of objects) objects i o at))
    (of_more c.args.asking.mode g.allow objects (flat_map (symbols_of objects) (take i objects)) (symbols_of objects o) [] c.loop-object.told c.tell_object.new.told c.loop-object.invariant
    (subst (λ es. c.tell_object.new.told ≡ distinct_onto same_call c.loop-object.told (told_of c.args.asking.mode g.allow objects es)) (row_at_place objects i o at) c.in_ok-tell_object.ensures))

pub returns : goal.returns
returns g c =
    let objects = c.args.asking.entries.objects.now in
    let past : length objects ≤ c.loop-object.object = omega (arith, c.count-object-end.ensures, c.loop-object-test.false) in
    subst (λ os. c.loop-object.told ≡ distinct same_call (told_of c.args.asking.mode g.allow objects (flat_map (symbols_of objects) os))) (take_all c.loop-object.object objects past) c.loop-object.invariant
