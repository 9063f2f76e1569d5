use Rattle.std.proofs.Common.{◌+◌, ◌++◌, ◌∙◌, ap}
use Rattle.std.specs.Prelude.{replicate}
use Rattle.body_windows.specs.Operands.{spread}
use Rattle.body_windows.specs.declared.operand.Operand.TheVariants.{Number}
use Rattle.body_windows.proofs.Spread.{spread_numbers}
use Rattle.body_windows.proofs.operands.Operands.push_numbers.Goals as goal

pub returns-then-behind-le65535 : goal.returns-then-behind-le65535
returns-then-behind-le65535 c =
    let o = c.self.inside in
    ap (λ n. spread o.references.items (n + c.args.count)) c.from.ensures
    ∙ spread_numbers o.references.items o.behind c.args.count
    ∙ ap (λ xs. xs ++ replicate c.args.count Number) c.self.view_is
