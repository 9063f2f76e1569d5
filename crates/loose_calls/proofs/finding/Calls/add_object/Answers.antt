use Rattle.std.proofs.Common.{arith, get_or, [], ◌∷◌, true, sym, subst, take}
use Rattle.std.proofs.lemmas.List.{take_all}
use Rattle.program_tables.specs.link_program.name_entries.View.{rows_of}
use Rattle.program_tables.specs.Loose.{loosens}
use Rattle.program_tables.proofs.Lists.{at_take}
use Rattle.program_tables.proofs.Steps.{item_at, some_at}
use Rattle.loose_calls.specs.Found.{Grows}
use Rattle.loose_calls.proofs.Growing.{grows_more, grows_none, grown_by}
use Rattle.loose_calls.proofs.finding.Calls.add_object.Goals as goal

pub loop-place-init : goal.loop-place-init
loop-place-init g c = grows_none (loosens c.args.asking.mode true g.allow c.args.asking.entries.objects.now) c.args.asking.count c.args.self.now

pub is_loose-loose-requires : goal.is_loose-loose-requires
is_loose-loose-requires g c =
    (c.requires.0, (some_at (get_or (rows_of c.args.asking.entries.objects.now) c.args.object []) c.loop-place.place (omega arith), c.requires.1))

pub add-requires-clause-fits : goal.add-requires-clause-fits
add-requires-clause-fits g c = c.requires.0.fits.objects

pub add-requires-clause-there : goal.add-requires-clause-there
add-requires-clause-there g c = some_at (get_or (rows_of c.args.asking.entries.objects.now) c.args.object []) c.loop-place.place (omega arith)

pub loop-place-preserved : goal.loop-place-preserved
loop-place-preserved g c =
    let objects = c.args.asking.entries.objects.now in
    let row = get_or (rows_of objects) c.args.object [] in
    let k = c.loop-place.place in
    let test = loosens c.args.asking.mode true g.allow objects in
    let (e, at) = item_at row k (omega arith) in
    subst (λ es. Grows test c.args.asking.count es c.args.self.now c.add.new.self) (sym (at_take row k e at))
    (grows_more test c.args.asking.count (take k row) (e ∷ []) c.args.self.now c.loop-place.self c.add.new.self c.loop-place.invariant
    (grown_by test c.args.asking.count e c.is_loose-loose.result c.loop-place.self c.add.new.self (c.is_loose-loose.ensures e at) (c.in_ok-add.ensures e at)))

pub returns : goal.returns
returns g c =
    let objects = c.args.asking.entries.objects.now in
    let row = get_or (rows_of objects) c.args.object [] in
    subst (λ es. Grows (loosens c.args.asking.mode true g.allow objects) c.args.asking.count es c.args.self.now c.loop-place.self) (take_all c.loop-place.place row (omega arith)) c.loop-place.invariant
