use Rattle.std.proofs.Common.{rules, arith, refl}
use Rattle.body_windows.proofs.Skims.{constant_ends, access_ends, call_ends, global_ends}
use Rattle.body_windows.proofs.quick.pass_one.Goals as goal

pub pass_number-requires-clause-ends : goal.pass_number-requires-clause-ends
pass_number-requires-clause-ends c =
    constant_ends c.args.bytes.now c.args.course.at _ (omega (arith, c.requires.whole)) refl (c.is_constant.ensures c.if-is_constant.true)

pub pass_number-requires-then-is_access-clause-ends : goal.pass_number-requires-then-is_access-clause-ends
pass_number-requires-then-is_access-clause-ends c =
    access_ends c.args.bytes.now c.args.course.at _ (omega (arith, c.requires.whole)) refl (c.is_access.ensures c.if-is_access.true) (c.is_short.ensures (search rules))

pub pass_window-requires-clause-ends : goal.pass_window-requires-clause-ends
pass_window-requires-clause-ends c =
    call_ends c.args.bytes.now c.args.course.at _ (omega (arith, c.requires.whole)) refl (c.is_call.ensures c.if-is_call.true)

pub pass_window-requires-then-is_global-clause-ends : goal.pass_window-requires-then-is_global-clause-ends
pass_window-requires-then-is_global-clause-ends c =
    global_ends c.args.bytes.now c.args.course.at _ (omega (arith, c.requires.whole)) refl (c.is_global.ensures c.if-is_global.true)
