use Rattle.run_numbers.proofs.layers.Layered.put_on.Goals as goal
use Rattle.run_numbers.proofs.Blocks.{put_is, put_heights}

pub returns : goal.returns
returns c = put_is c.self.inside.blocks c.self.inside.values c.args.self.now c.self.view_is c.args.top c.put_on.new.self c.in_ok-put_on.ensures.ok c.self.invariant
