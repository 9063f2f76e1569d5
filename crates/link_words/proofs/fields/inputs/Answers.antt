use Rattle.std.proofs.Common.{◌≡◌, ◌<◌, ◌≤◌, List, length, All, arith, subst, sym}
use Rattle.std.proofs.lemmas.Grind.{common_steps}
use Rattle.link_plan.specs.declared.plan.InputWord.{InputWord}
use Rattle.link_words.specs.Fields.{inputs}
use Rattle.link_words.proofs.Inputs.{counted, placed}
use Rattle.link_words.proofs.fields.inputs.Goals as goal

pub returns-clause-count : goal.returns-clause-count
returns-clause-count c =
    let all : c.loop-item.inputs ≡ inputs c.args.items.now = grind (arith, common_steps) in
    subst (λ (xs : List InputWord). length xs ≤ length c.args.items.now) (sym all) (counted c.args.items.now)

pub returns-clause-places : goal.returns-clause-places
returns-clause-places c =
    let all : c.loop-item.inputs ≡ inputs c.args.items.now = grind (arith, common_steps) in
    λ bound within. subst (λ (xs : List InputWord). All (λ (i : InputWord). i.place < bound) xs) (sym all) (placed bound c.args.items.now within)
