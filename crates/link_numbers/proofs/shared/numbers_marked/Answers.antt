use Rattle.std.proofs.Common.{Ok, Err, ap, ◌∙◌}
use Rattle.std.proofs.lemmas.Result.{err_from_is_err_and}
use Rattle.link_numbers.specs.Numbered.{Numbered}
use Rattle.link_numbers.specs.SharedNumbered.{shared_slots}
use Rattle.link_numbers.proofs.SharedComposed.{composed, slots_tell}
use Rattle.link_numbers.proofs.shared.numbers_marked.Goals as goal

pub returns-in_err-functions-clause-table : goal.returns-in_err-functions-clause-table
returns-in_err-functions-clause-table c =
    let p = err_from_is_err_and c.from_residual.result c.from_residual.ensures.1 in
    rw (p.1, p.2) tt

pub returns-in_err-slots-clause-table : goal.returns-in_err-slots-clause-table
returns-in_err-slots-clause-table c =
    let p = err_from_is_err_and c.from_residual-in_err-slots.result c.from_residual-in_err-slots.ensures.1 in
    let f = slots_tell c.args.program c.args.entries.objects.now c.args.exports.now c.args.live.now c.args.marks.now
    {A = Numbered} (Err c.in_err-slots.field-0.0) c.as_slice.result.now (c.as_slice.ensures.value ∙ c.in_ok-functions.ensures) c.in_err-slots.ensures.table in
    rw (p.1, p.2) f

pub returns-in_err-globals-clause-table : goal.returns-in_err-globals-clause-table
returns-in_err-globals-clause-table c =
    let p = err_from_is_err_and c.from_residual-in_err-globals.result c.from_residual-in_err-globals.ensures.1 in
    rw (p.1, p.2) tt

pub returns-in_err-types-clause-table : goal.returns-in_err-types-clause-table
returns-in_err-types-clause-table c =
    let p = err_from_is_err_and c.from_residual-in_err-types.result c.from_residual-in_err-types.ensures.1 in
    rw (p.1, p.2) tt

pub returns-in_err-numbering-clause-table : goal.returns-in_err-numbering-clause-table
returns-in_err-numbering-clause-table c =
    let p = err_from_is_err_and c.from_residual-in_err-numbering.result c.from_residual-in_err-numbering.ensures.1 in
    rw (p.1, p.2) tt

pub numbering_of-requires : goal.numbering_of-requires
numbering_of-requires c = c.in_ok-slots.ensures.few

pub returns-clause-numbers : goal.returns-clause-numbers
returns-clause-numbers c =
    let is = rw c.as_slice-known.ensures at c.in_ok-numbering.ensures in
    composed c.args.program c.args.entries.objects.now c.args.exports.now c.args.live.now c.args.marks.now
    c.in_ok-functions.functions.items c.in_ok-slots.slots.items c.in_ok-globals.globals.items c.in_ok-types.types c.in_ok-numbering.numbering
    c.in_ok-functions.ensures (c.in_ok-slots.ensures.slots ∙ ap (shared_slots c.args.marks.now) c.as_slice.ensures.value) c.in_ok-globals.ensures c.in_ok-types.ensures is

pub returns-clause-table : goal.returns-clause-table
returns-clause-table c =
    slots_tell c.args.program c.args.entries.objects.now c.args.exports.now c.args.live.now c.args.marks.now
    {A = Numbered} (Ok c.in_ok-numbering.numbering) c.as_slice.result.now (c.as_slice.ensures.value ∙ c.in_ok-functions.ensures) c.in_ok-slots.ensures.table
