use Rattle.std.proofs.Common.{ap, sym, ◌∙◌}
use Rattle.link_numbers.specs.Rows.{number_told, stands_at}
use Rattle.link_numbers.proofs.Rows.{told_there, told_absent}
use Rattle.link_numbers.proofs.functions.number_in.Goals as goal

pub returns-then-stands_at : goal.returns-then-stands_at
returns-then-stands_at c =
    let is = c.number_told-number.ensures in
    is ∙ told_there (number_told c.args.begins.now c.args.numbers.now) c.args.keys.now c.requires c.args.key
    (ap (λ n. stands_at c.args.keys.now n c.args.key) (sym is) ∙ sym c.stands_at.ensures ∙ c.if-stands_at.true)

pub returns-else-stands_at : goal.returns-else-stands_at
returns-else-stands_at c =
    let is = c.number_told-number.ensures in
    told_absent (number_told c.args.begins.now c.args.numbers.now) c.args.keys.now c.requires c.args.key
    (ap (λ n. stands_at c.args.keys.now n c.args.key) (sym is) ∙ sym c.stands_at.ensures ∙ c.if-stands_at.false)
