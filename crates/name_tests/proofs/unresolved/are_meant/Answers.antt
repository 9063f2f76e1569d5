use Rattle.std.proofs.Common.{◌≡◌, ◌∙◌, length, sym, subst, arith}
use Rattle.std.proofs.lemmas.List.{take_all}
use Rattle.std.proofs.lemmas.List.Elements.{All-more}
use Rattle.name_entries.specs.object_file.declared.object.Object.{Object}
use Rattle.name_meanings.specs.Means.{row_of}
use Rattle.name_unresolved.specs.Unresolved.{AreMeant}
use Rattle.name_tests.proofs.unresolved.are_meant.Goals as goal

pub loop-object-preserved : goal.loop-object-preserved
loop-object-preserved c =
    let has = λ (o : Object). length (row_of c.args.rows.now o.input) ≡ length o.symbols in
    let it = c.object-item.result in
    let same : c.count.result ≡ length it.symbols = omega arith in
    All-more has c.args.objects.now c.loop-object.object-index it (omega arith) c.loop-object.invariant
    (subst has c.object-item.is (sym c.count.ensures ∙ same))

pub returns : goal.returns
returns c = λ t. subst (AreMeant c.args.rows.now) (take_all c.loop-object.object-index c.args.objects.now (omega arith)) c.loop-object.invariant
