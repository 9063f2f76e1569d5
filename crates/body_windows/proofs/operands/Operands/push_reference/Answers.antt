use Rattle.std.proofs.Common.{◌∙◌, ◌++◌, ◌∷◌, [], ap}
use Rattle.body_windows.specs.Operands.{operand_of, spread}
use Rattle.body_windows.proofs.Spread.{spread_reference}
use Rattle.body_windows.proofs.operands.Operands.push_reference.Goals as goal

pub returns-clause-ok : goal.returns-clause-ok
returns-clause-ok c =
    let o = c.self.inside in
    let kept = c.of.result in
    ap (λ rs. spread rs 0) c.in_ok-push.ensures.items
    ∙ spread_reference o.references.items kept
    ∙ ap (λ n. spread o.references.items n ++ operand_of kept ∷ []) c.of.ensures.numbers
    ∙ ap (λ operand. spread o.references.items o.behind ++ operand ∷ []) c.of.ensures.operand
    ∙ ap (λ xs. xs ++ c.args.operand ∷ []) c.self.view_is
