use Rattle.std.proofs.Common.{◌+◌, ◌-◌, length, arith}
use Rattle.run_modules.proofs.starts.write_bytes.Goals as goal
use Rattle.run_modules.proofs.Written.{replaced}

pub returns : goal.returns
returns c =
    replaced c.args.memory.now c.copy_from_slice.new.self c.args.bytes.now c.args.at (c.args.at + length c.args.bytes.now - c.args.at) c.copy_from_slice.ensures.after (omega arith)
