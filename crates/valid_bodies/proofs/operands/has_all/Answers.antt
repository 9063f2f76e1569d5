use Rattle.std.proofs.Common.{sym, ◌∙◌, arith}
use Rattle.valid_bodies.proofs.operands.has_all.Goals as goal
use Rattle.valid_bodies.proofs.Dropping.{has_below, has_none, has_any, has_same, has_other}

pub returns-then-not-unreachable : goal.returns-then-not-unreachable
returns-then-not-unreachable c =
    let l = c.loop-left in
    sym (has_none c.args.unreachable c.args.kinds.now c.args.operands.now.own l.left l.at c.loop-left-test.true l.invariant.0 (sym c.in-None.ensures.value) (cc)) ∙ l.invariant.3

pub loop-left-preserved-else-not-unreachable : goal.loop-left-preserved-else-not-unreachable
loop-left-preserved-else-not-unreachable c =
    let l = c.loop-left in
    (omega arith, l.invariant.1, l.invariant.2, sym (has_below c.args.unreachable c.args.kinds.now c.args.operands.now.own l.left l.at c.loop-left-test.true l.invariant.0 (sym c.in-None.ensures.value) (cc)) ∙ l.invariant.3)

pub loop-left-preserved-in-Some-Unknown : goal.loop-left-preserved-in-Some-Unknown
loop-left-preserved-in-Some-Unknown c =
    let l = c.loop-left in
    (omega arith, omega (arith, c.in-Some-Unknown.ensures.within), l.invariant.2, sym (has_any c.args.unreachable c.args.kinds.now c.args.operands.now.own l.left l.at c.loop-left-test.true l.invariant.0 (cc)) ∙ l.invariant.3)

pub returns-then-not-same : goal.returns-then-not-same
returns-then-not-same c =
    let l = c.loop-left in
    sym (has_other c.args.unreachable c.args.kinds.now c.args.operands.now.own l.left l.at c.loop-left-test.true l.invariant.0 c.in-Some-Known.found (cc) (cc)) ∙ l.invariant.3

pub loop-left-preserved : goal.loop-left-preserved
loop-left-preserved c =
    let l = c.loop-left in
    (omega arith, omega (arith, c.in-Some-Known.ensures.within), l.invariant.2, sym (has_same c.args.unreachable c.args.kinds.now c.args.operands.now.own l.left l.at c.loop-left-test.true l.invariant.0 c.in-Some-Known.found (cc) (cc)) ∙ l.invariant.3)
