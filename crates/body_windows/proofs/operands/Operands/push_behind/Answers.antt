use Rattle.std.proofs.Common.{◌+◌, ◌∙◌, ◌++◌, ◌∷◌, [], ap}
use Rattle.std.specs.Prelude.{replicate}
use Rattle.body_windows.specs.Operands.{operand_of, spread}
use Rattle.body_windows.specs.declared.operand.Operand.TheVariants.{Number}
use Rattle.body_windows.proofs.Spread.{spread_numbers, spread_reference}
use Rattle.body_windows.proofs.operands.Operands.push_behind.Goals as goal

pub returns-clause-pushed : goal.returns-clause-pushed
returns-clause-pushed c = λ _.
    let o = c.self.inside in
    let kept = c.of.result in
    ap (λ rs. spread rs 0) c.push_reserved.ensures.items
    ∙ spread_reference o.references.items kept
    ∙ ap (λ n. spread o.references.items n ++ operand_of kept ∷ []) (c.of.ensures.numbers ∙ ap (λ n. n + c.args.numbers) c.from.ensures)
    ∙ ap (λ operand. spread o.references.items (o.behind + c.args.numbers) ++ operand ∷ []) c.of.ensures.operand
    ∙ ap (λ xs. xs ++ c.args.operand ∷ []) (spread_numbers o.references.items o.behind c.args.numbers ∙ ap (λ xs. xs ++ replicate c.args.numbers Number) c.self.view_is)
