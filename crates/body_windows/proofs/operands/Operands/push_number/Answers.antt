use Rattle.std.proofs.Common.{sym, ◌∙◌, ap, arith}
use Rattle.body_windows.specs.Operands.{spread}
use Rattle.body_windows.proofs.Spread.{spread_number}
use Rattle.body_windows.proofs.operands.Operands.push_number.Goals as goal

pub returns-in-Some-clause-ok : goal.returns-in-Some-clause-ok
returns-in-Some-clause-ok c =
    let o = c.self.inside in
    rw (sym c.self.view_is) (ap (spread o.references.items) (omega (arith, c.in-Some.ensures)) ∙ spread_number o.references.items o.behind)
