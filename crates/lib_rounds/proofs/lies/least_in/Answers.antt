use Rattle.std.proofs.Common.{◌∙◌, ◌-◌, ap, sym, arith}
use Rattle.std.specs.Prelude.{option_copied}
use Rattle.lib_index.specs.Table.{shown}
use Rattle.round_rules.specs.Rounds.{lesser_name}
use Rattle.lib_rounds.specs.State.{is_other}
use Rattle.lib_rounds.proofs.Names.{lie_more, no_lie, there}
use Rattle.lib_rounds.proofs.lies.least_in.Goals as goal

pub loop-at-preserved-then-is_other : goal.loop-at-preserved-then-is_other
loop-at-preserved-then-is_other c =
    c.lesser_name-least.ensures
    ∙ ap (lesser_name c.in-Some.name.now) c.loop-at.invariant
    ∙ sym (lie_more (is_other (shown c.args.definers.now) c.args.input) c.args.names.now c.loop-at.at c.in-Some.name.now (omega
    (arith, c.loop-at-test.true)) (sym c.in-Some.ensures) (sym c.is_other.ensures ∙ c.if-is_other.true))

pub loop-at-preserved-else-is_other : goal.loop-at-preserved-else-is_other
loop-at-preserved-else-is_other c =
    c.loop-at.invariant
    ∙ sym (no_lie (is_other (shown c.args.definers.now) c.args.input) c.args.names.now c.loop-at.at c.in-Some.name.now (omega
    (arith, c.loop-at-test.true)) (sym c.in-Some.ensures) (sym c.is_other.ensures ∙ c.if-is_other.false))

pub loop-at-preserved : goal.loop-at-preserved
loop-at-preserved c =
    let none = sym c.get.ensures ∙ ap option_copied c.in_default.is in
    let some = there c.args.names.now (c.loop-at.at - 1) (omega (arith, c.loop-at-test.true, c.loop-at.auto.at, c.len-at.ensures)) in
    let some_is = some.1 in
    absurd cc
