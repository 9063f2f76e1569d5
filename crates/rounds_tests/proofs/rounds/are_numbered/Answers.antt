use Rattle.std.proofs.Common.{List, sym, subst, arith}
use Rattle.std.proofs.lemmas.List.{drop_all}
use Rattle.round_rules.specs.declared.given.GivenObject.{GivenObject}
use Rattle.rounds_tests.proofs.Tested.{NumberedFrom, numbered_from_one}
use Rattle.rounds_tests.proofs.rounds.are_numbered.Goals as goal

pub returns : goal.returns
returns c _ = numbered_from_one c.args.given.now (c.loop-one.invariant (subst (λ (gs : List GivenObject). NumberedFrom c.loop-one.last gs)
    (sym (drop_all c.loop-one.one-index c.args.given.now (omega (arith, c.loop-one-test.false)))) tt))
