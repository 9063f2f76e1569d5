use Rattle.std.proofs.Common.{[], ◌∷◌, sym, subst}
use Rattle.link_names.specs.Interning.{Takes, IsNumber, one}
use Rattle.link_names.proofs.Steps.{gains_more, taken, refused}
use Rattle.link_names.proofs.build.add_words.Goals as goal

pub returns-in_err-number : goal.returns-in_err-number
returns-in_err-number c =
    let told = subst (λ n. Takes (IsNumber n) c.number.result c.loop-word.table c.number.new.table (n ∷ [])) c.as_slice.ensures c.number.ensures in
    refused (IsNumber c.word-item.result) (λ names nothing. Unit {0}) one c.args.words.now c.loop-word.word-index c.word-item.result c.args.table.now c.loop-word.table c.number.new.table c.number.new.table
    c.number.result c.from_residual.result c.in_err-number.field-0.0 (c.loop-word-test.true, sym c.word-item.is) c.loop-word.invariant c.in_err-number.was c.from_residual.ensures told

pub loop-word-preserved : goal.loop-word-preserved
loop-word-preserved c =
    let told = subst (λ n. Takes (IsNumber n) c.number.result c.loop-word.table c.number.new.table (n ∷ [])) c.as_slice.ensures c.number.ensures in
    gains_more one c.args.words.now c.loop-word.word-index c.word-item.result c.args.table.now c.loop-word.table c.number.new.table (c.loop-word-test.true, sym c.word-item.is) c.loop-word.invariant
    (taken (IsNumber c.word-item.result) c.number.result c.loop-word.table c.number.new.table (one c.word-item.result) c.in_ok-number.field-0 c.in_ok-number.was told).0
