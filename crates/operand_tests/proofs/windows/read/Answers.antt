use Rattle.std.proofs.Common.{arith}
use Rattle.body_windows.proofs.Order.{body_order, windows_order}
use Rattle.operand_tests.proofs.windows.read.Goals as goal

pub windows-requires-clause-order : goal.windows-requires-clause-order
windows-requires-clause-order c = windows_order c.in-Ok.body c.args.bytes.now c.in-Ok.ensures.found

pub windows-requires-clause-room : goal.windows-requires-clause-room
windows-requires-clause-room c = omega (arith, (body_order c.in-Ok.body c.args.bytes.now c.in-Ok.ensures.found).1)
