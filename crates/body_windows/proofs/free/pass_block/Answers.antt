use Rattle.body_windows.proofs.Passing.{passes}
use Rattle.body_windows.proofs.free.pass_block.Goals as goal

pub returns-then-turn_blocks : goal.returns-then-turn_blocks
returns-then-turn_blocks c = λ from bytes s stands some free.
    let done = c.turn_blocks.ensures in
    rw c.moved.ensures (passes from bytes s c.args.opens.now c.turn_blocks.new.opens c.args.course c.args.outline c.args.to stands some (done.opened some) free (done.done c.if-turn_blocks.true))
