use Rattle.std.proofs.Common.{ℕ, ◌+◌, ◌*◌, ◌<◌, arith, subst}
use Rattle.run_script.proofs.Large.{passed}
use Rattle.run_script.proofs.numbers.spelled.Goals as goal

pub returns-then-value-limit-clause-is : goal.returns-then-value-limit-clause-is
returns-then-value-limit-clause-is c =
    let above : c.args.most < c.loop-byte.value * 10 + c.digit_at-digit.result = omega (arith, c.if-value-limit.true, c.loop-byte.invariant.0) in
    passed c.args.digits.now c.loop-byte.byte-index c.loop-byte.value c.args.most c.loop-byte-test.true
    (subst (λ (d : ℕ). d < 10) c.digit_at-digit.ensures c.if-digit-ge10.false)
    (subst (λ (d : ℕ). c.args.most < c.loop-byte.value * 10 + d) c.digit_at-digit.ensures above) c.loop-byte.invariant.2
