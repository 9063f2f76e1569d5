use Rattle.std.proofs.Common.{arith}
use Rattle.valid_bodies.proofs.Cutting.{popped}
use Rattle.valid_bodies.proofs.layer.Operands.pop.Goals as goal

pub returns : goal.returns
returns c = popped c.self.inside.height c.in_ok-operand.operand c.self.inside.items c.pop.new.self c.args.self.now c.self.view_is c.in_ok-operand.ensures c.self.invariant (omega (arith, c.len.ensures))
