use Rattle.std.proofs.Common.{◌≡◌, sym, ap, ◌∙◌, rules}
use Rattle.link_program.specs.declared.named.Named.TheVariants.{Symbol}
use Rattle.link_layout.specs.Rows.{shared_window}
use Rattle.link_layout.specs.Layout.{looked}
use Rattle.link_layout.proofs.values.Layout.shared_window.Goals as goal

pub returns-then-kind-eq-GLOBAL_INDEX_LEB-clause-is : goal.returns-then-kind-eq-GLOBAL_INDEX_LEB-clause-is
returns-then-kind-eq-GLOBAL_INDEX_LEB-clause-is c =
    let k = looked c.args.self in
    let i = c.in-Symbol in
    let seven : i.kind ≡ 7 = search rules in
    let named : c.args.named.now ≡ Symbol i.kind i.place i.addend i.at = search rules in
    c.global_window.ensures.is i.addend ∙ ap (λ n. shared_window k (Symbol n i.place i.addend i.at)) (sym seven) ∙ ap (shared_window k) (sym named)
