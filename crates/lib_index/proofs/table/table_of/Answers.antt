use Rattle.std.proofs.Common.{sym, ◌∙◌, arith}
use Rattle.lib_index.specs.Reading.{entries_at}
use Rattle.lib_index.specs.Table.{shown}
use Rattle.lib_index.proofs.NameSteps.{goes_on, ends, is_done, onto_offers}
use Rattle.lib_index.proofs.table.table_of.Goals as goal

pub returns-in_default : goal.returns-in_default
returns-in_default c =
    sym (onto_offers (entries_at c.args.numbers.now c.args.names.now))
    ∙ ends (shown c.loop-number.table) c.args.numbers.now c.loop-number.number-index c.loop-number.rest.now _ c.loop-number-test.true (sym c.in_default.ensures) c.loop-number.invariant

pub loop-number-preserved : goal.loop-number-preserved
loop-number-preserved c =
    rw c.in_ok-offer.ensures (goes_on (shown c.loop-number.table) c.args.numbers.now c.loop-number.number-index c.loop-number.rest.now c.in-Some.name.now c.in-Some.after.now _ c.loop-number-test.true (sym c.in-Some.ensures) c.loop-number.invariant)

pub returns : goal.returns
returns c =
    sym (onto_offers (entries_at c.args.numbers.now c.args.names.now))
    ∙ is_done (shown c.loop-number.table) c.args.numbers.now c.loop-number.number-index c.loop-number.rest.now _ (omega arith) c.loop-number.invariant
