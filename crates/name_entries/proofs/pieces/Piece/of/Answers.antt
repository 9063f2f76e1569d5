use Rattle.std.proofs.Common.{get_or, [], length, refl, sym, subst, arith}
use Rattle.std.proofs.lemmas.Option.{slice_get_read}
use Rattle.name_entries.specs.Rows.{AreRowsOf}
use Rattle.name_entries.proofs.Along.{object_more, no_object}
use Rattle.name_entries.proofs.pieces.Piece.of.Goals as goal

pub loop-object-init : goal.loop-object-init
loop-object-init c =
    no_object c.args.objects.now c.args.names.now.symbols c.args.from (record { parts = c.in_ok-parts.parts; rows = c.new-rows.result }) c.in_ok-parts.ensures c.new-rows.ensures

pub loop-object-preserved : goal.loop-object-preserved
loop-object-preserved c =
    let objects = c.args.objects.now in
    let names = c.args.names.now.symbols in
    let one = c.index-objects-object.result in
    let there = slice_get_read objects (length objects) c.loop-object.object one refl (omega arith) c.index-objects-object.is in
    let filled = subst (AreRowsOf objects one (get_or names c.loop-object.object [])) (sym c.as_slice.ensures) c.in_ok-fill_rows.ensures in
    object_more objects names c.args.from c.loop-object.object (record { parts = c.loop-object.parts; rows = c.loop-object.rows }) (record { parts = c.push-in-loop-object.new.self; rows = c.push.new.self })
    one c.in_ok-own.own c.as_slice.result.now c.in_ok-push-2.ensures.ok c.in_ok-push.ensures.ok there c.in_ok-own.ensures filled c.loop-object.invariant
