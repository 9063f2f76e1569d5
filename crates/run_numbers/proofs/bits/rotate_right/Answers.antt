use Rattle.std.proofs.Common.{◌≡◌, ◌+◌, ◌-◌, ◌/◌, ◌%◌, ◌^◌, ◌<◌, arith, sym, rules}
use Rattle.run_rules.specs.Numbers.{bits}
use Rattle.run_numbers.proofs.bits.rotate_right.Goals as goal
use Rattle.run_numbers.proofs.Rotate.{rotated, rotated_right, turns_within, small_64}

pub returns-clause-fits : goal.returns-clause-fits
returns-clause-fits c = rw (c.shift_left.ensures.value, c.width-2.ensures, c.width.ensures) (rotated_right (bits c.args.t) (c.args.b % bits c.args.t) c.args.a (rw (sym c.width.ensures) (omega (arith, c.if-by-eq0.false))) (turns_within c.args.t c.args.b) c.requires.a_in)

pub overflow_add-result : goal.overflow_add-result
overflow_add-result c =
    let e = small_64 c.args.t (c.args.a / 2 ^ (c.args.b % c.width.result) + c.shift_left.result) (rw (c.shift_left.ensures.value, c.width-2.ensures, c.width.ensures) (rotated_right (bits c.args.t) (c.args.b % bits c.args.t) c.args.a (rw (sym c.width.ensures) (omega (arith, c.if-by-eq0.false))) (turns_within c.args.t c.args.b) c.requires.a_in)) in
    search (rules, e)
