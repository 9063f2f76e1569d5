use Rattle.std.proofs.Common.{arith, take, subst, sym, ◌+◌, ◌<◌, ◌≤◌, length, ◌≡◌}
use Rattle.std.specs.Prelude.{flat_map}
use Rattle.std.proofs.lemmas.List.{length-map}
use Rattle.name_entries.specs.name_rules.Entries.{symbols_of}
use Rattle.name_entries.specs.View.{rows_of}
use Rattle.name_meanings.specs.Columns.{AreColumnsOf}
use Rattle.name_meanings.proofs.columns.columns_of.Goals as goal
use Rattle.name_meanings.proofs.Flattened.{object_more, rows_whole, written}

pub loop-object-preserved : goal.loop-object-preserved
loop-object-preserved c =
    let rows = rows_of c.args.entries.objects.now in
    let seen = flat_map (λ r. r) (take (c.loop-object.object + 1) rows) in
    let counted : length rows ≡ length c.args.entries.objects.now = length-map c.args.entries.objects.now (symbols_of c.args.entries.objects.now) in
    let within : c.loop-object.object < length rows = omega (arith, counted, c.count-object-end.ensures, c.loop-object-test.true) in
    written c.args.entries.names.now.names c.args.entries.objects.now seen c.loop-object.columns.len c.loop-object.columns.items c.note_object.new.columns
    c.loop-object.columns.ok.0 c.loop-object.invariant.count
    (object_more c.args.entries.names.now.names c.args.entries.objects.now rows c.loop-object.object c.deref_mut.result.now c.note_object.new.columns within c.note_object.ensures
    (subst (λ cs. AreColumnsOf c.args.entries (flat_map (λ r. r) (take c.loop-object.object rows)) cs) (sym c.deref_mut.ensures.value) c.loop-object.invariant))

pub returns : goal.returns
returns c =
    let rows = rows_of c.args.entries.objects.now in
    let counted : length rows ≡ length c.args.entries.objects.now = length-map c.args.entries.objects.now (symbols_of c.args.entries.objects.now) in
    let past : length rows ≤ c.loop-object.object = omega (arith, counted, c.count-object-end.ensures, c.loop-object-test.false) in
    rows_whole c.args.entries.names.now.names c.args.entries.objects.now c.loop-object.object c.loop-object.columns.items past c.loop-object.invariant
