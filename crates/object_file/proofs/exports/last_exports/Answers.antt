use Rattle.std.proofs.Common.{◌≡◌, ◌+◌, length, drop, subst, sym, arith}
use Rattle.std.proofs.lemmas.List.{take_at}
use Rattle.object_rules.specs.wasm_module.declared.parts.Export.{Export}
use Rattle.object_file.specs.Exports.{noted}
use Rattle.object_file.proofs.Exported.{Last, one_more}
use Rattle.object_file.proofs.exports.last_exports.Goals as goal

pub loop-at-preserved : goal.loop-at-preserved
loop-at-preserved c =
    let n : length c.note.new.places ≡ c.loop-at.places.len = omega (arith, c.note.auto.places, c.deref_mut.ensures.len) in
    let whole = take_at c.note.new.places (drop (length c.note.new.places) c.loop-at.places.items) c.loop-at.places.len n in
    let next = one_more c.args.exports.now c.args.functions c.loop-at.at c.index-exports-at.result c.loop-at.places.items c.loop-at-test.true c.loop-at.invariant in
    let here = subst (λ (e : Export). Last c.args.exports.now c.args.functions (c.loop-at.at + 1) (noted e c.loop-at.at c.loop-at.places.items)) (sym c.index-exports-at.is) next in
    rw (whole, c.note.ensures, c.deref_mut.ensures.value) here
