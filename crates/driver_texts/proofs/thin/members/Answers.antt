use Rattle.std.proofs.Common.{◌≡◌, ◌-◌, ℕ, length, take, drop, ap, arith}
use Rattle.driver_texts.proofs.Headers.{begins, goes_on, is_done}
use Rattle.driver_texts.proofs.thin.members.Goals as goal

pub loop-init : goal.loop-init
loop-init c =
    let text = c.args.text.now in
    let none : length text - length text ≡ 0 = omega arith in
    begins text c.new-names.result _ c.from-left.result.now c.new-names.ensures (ap (λ (n : ℕ). take n (drop (length text) text)) none) c.from-left.ensures

pub loop-preserved : goal.loop-preserved
loop-preserved c =
    goes_on (length c.args.text.now) c.loop.counter c.loop.names c.add_name.new.names c.loop.longs.now c.loop.left.now c.name_in.result.now c.longs_after-longs.result.now c.after-left.result.now _
    c.loop-test.true c.if-left-lt-HEADER.false c.name_in.ensures c.in_ok-add_name.ensures c.longs_after-longs.ensures c.after-left.ensures c.loop.invariant

pub returns : goal.returns
returns c = is_done (length c.args.text.now) c.loop.counter c.loop.names c.loop.longs.now c.loop.left.now _ c.loop-test.false c.loop.invariant
