use Rattle.std.proofs.Common.{◌≤◌, arith, [], true, take, sym, subst, length}
use Rattle.std.proofs.lemmas.List.{take_all}
use Rattle.std.specs.Prelude.{flat_map}
use Rattle.program_tables.specs.link_program.name_rules.Entries.{symbols_of}
use Rattle.program_tables.specs.Loose.{loosens}
use Rattle.program_tables.proofs.Steps.{item_at}
use Rattle.loose_calls.specs.declared.finding.Calls.{Calls}
use Rattle.loose_calls.specs.Found.{Grows}
use Rattle.loose_calls.proofs.Growing.{grows_more, grows_empty, flat_one, row_at_place, are_calls}
use Rattle.loose_calls.proofs.finding.all_calls.Goals as goal

pub add_object-requires : goal.add_object-requires
add_object-requires g c = (c.requires, omega (arith, c.count-object-end.ensures, c.loop-object-test.true))

pub loop-object-init : goal.loop-object-init
loop-object-init g c = grows_empty (loosens c.args.asking.mode true g.allow c.args.asking.entries.objects.now) c.args.asking.count c.new.result c.new-2.result c.new.ensures c.new-2.ensures

pub loop-object-preserved : goal.loop-object-preserved
loop-object-preserved g c =
    let objects = c.args.asking.entries.objects.now in
    let count = c.args.asking.count in
    let i = c.loop-object.object in
    let test = loosens c.args.asking.mode true g.allow objects in
    let none : Calls = record { called = []; variants = [] } in
    let (o, at) = item_at objects i (omega (arith, c.count-object-end.ensures, c.loop-object-test.true)) in
    subst (λ es. Grows test count es none c.add_object.new.self) (sym (flat_one (symbols_of objects) objects i o at))
    (grows_more test count (flat_map (symbols_of objects) (take i objects)) (symbols_of objects o) none c.loop-object.calls c.add_object.new.self c.loop-object.invariant
    (subst (λ es. Grows test count es c.loop-object.calls c.add_object.new.self) (row_at_place objects i o at) c.in_ok-add_object.ensures))

pub returns : goal.returns
returns g c =
    let objects = c.args.asking.entries.objects.now in
    let count = c.args.asking.count in
    let past : length objects ≤ c.loop-object.object = omega (arith, c.count-object-end.ensures, c.loop-object-test.false) in
    are_calls c.args.asking.mode g.allow objects count c.loop-object.calls c.requires.count
    (subst (λ os. Grows (loosens c.args.asking.mode true g.allow objects) count (flat_map (symbols_of objects) os) (record { called = []; variants = [] }) c.loop-object.calls) (take_all c.loop-object.object objects past) c.loop-object.invariant)
