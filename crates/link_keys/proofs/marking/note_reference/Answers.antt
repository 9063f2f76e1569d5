use Rattle.std.proofs.Common.{◌≡◌, true, sym, ap, ◌∙◌, rules}
use Rattle.link_keys.specs.Asked.{sort_at, asks_nothing}
use Rattle.link_keys.proofs.Passed.{nothing_asked}
use Rattle.link_keys.proofs.marking.note_reference.Goals as goal

pub returns-then-asks_nothing : goal.returns-then-asks_nothing
returns-then-asks_nothing c =
    let asks : c.asks_nothing.result ≡ true = search rules in
    let none : asks_nothing c.args.kind (sort_at c.args.sorts.now c.args.symbol) ≡ true = ap (asks_nothing c.args.kind) (sym c.sort_at.ensures) ∙ sym c.asks_nothing.ensures ∙ asks in
    nothing_asked c.args.code c.args.kind c.args.marks.now c.args.symbols.now c.args.sorts.now c.args.symbol c.requires none
