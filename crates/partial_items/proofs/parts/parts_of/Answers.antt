use Rattle.partial_items.proofs.Bodies.{parts_are, parts_fit}
use Rattle.partial_items.proofs.parts.parts_of.Goals as goal

pub returns : goal.returns
returns c = λ p s kind is stand strict are numbered column files same.
    let law = c.relocs_are.ensures in
    let told = c.rows_are_windowed.ensures.told in
    let fit = c.rows_are_windowed.ensures.fit in
    let numbers = c.args.numbers.now in
    let ns = c.args.parts.now in
    let made = c.in_ok-rows.ensures in (
      parts_are law told fit c.args.program p is stand strict s are numbers numbered column c.args.files.now files kind ns same _ made,
      parts_fit law told fit c.args.program p is stand strict s are numbers numbered column c.args.files.now files kind ns same _ made,
    )
