use Rattle.std.proofs.Common.{rules, subst, sym}
use Rattle.debug_out.specs.Grouped.{HasLengths}
use Rattle.debug_out.specs.Tails.{tail_bytes}
use Rattle.debug_out.proofs.Tail.{too_long, it_fits}
use Rattle.debug_out.proofs.joining.judged.Goals as goal

pub returns-then-needed-gt-MOST-clause-told : goal.returns-then-needed-gt-MOST-clause-told
returns-then-needed-gt-MOST-clause-told c = λ ds p is has stand.
    let measured = c.in-Some.ensures ds (subst (λ xs. HasLengths c.args.names.now.names xs ds) (sym c.as_slice.ensures.value) has.1) in
    too_long ds p c.args.names.now.names c.in-Some.len c.args.length c.in-Some-checked_add.needed is stand measured (search rules) (search rules)

pub returns-clause-told : goal.returns-clause-told
returns-clause-told c = λ ds p is has stand.
    let measured = c.in-Some.ensures ds (subst (λ xs. HasLengths c.args.names.now.names xs ds) (sym c.as_slice.ensures.value) has.1) in
    it_fits ds p c.args.names.now.names c.in-Some.len c.args.length c.in-Some-checked_add.needed (tail_bytes p c.in_ok-tail.tail) is stand measured (search rules) (search rules) (c.in_ok-tail.ensures.bytes ds p has stand)

pub returns-clause-whole : goal.returns-clause-whole
returns-clause-whole c = λ ds has stand. c.in_ok-tail.ensures.whole ds has stand
