use Rattle.std.proofs.Common.{◌+◌, ◌-◌, arith}
use Rattle.run_model.proofs.bulk.set_bytes.Goals as goal
use Rattle.run_model.proofs.Moved.{filled}

pub returns : goal.returns
returns c = filled c.args.memory.now _ c.args.to c.args.count (c.args.to + c.args.count - c.args.to) c.args.byte c.requires (omega arith) (c.fill.ensures.after (λ y h. h))
