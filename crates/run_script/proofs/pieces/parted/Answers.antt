use Rattle.std.proofs.Common.{◌≡◌, ◌∙◌, ◌+◌, ◌-◌, ◌∷◌, ap, sym, length, take, drop, arith}
use Rattle.std.proofs.lemmas.Grind.{common_steps}
use Rattle.run_script.specs.Cut.{cut}
use Rattle.run_script.proofs.Cut.{at_byte}
use Rattle.run_script.proofs.pieces.parted.Goals as goal

pub returns-in-Some-clause-is : goal.returns-in-Some-clause-is
returns-in-Some-clause-is c =
    let text = c.args.text.now in
    let k = c.in-Some.k in
    let rest : take (length text - (k + 1)) (drop (k + 1) text) ≡ drop (k + 1) text = grind (arith, common_steps) in
    at_byte c.args.at text k (sym c.in-Some.ensures.is) ∙ ap (λ r. take k text ∷ cut c.args.at r) (sym rest)
