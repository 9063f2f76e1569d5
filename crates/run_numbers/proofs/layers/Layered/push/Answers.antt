use Rattle.std.proofs.Common.{◌≡◌, ◌+◌, ◌-◌, ◌<◌, ◌≤◌, length, take, drop, refl, sym, ap, ◌∙◌, arith, Some, None}
use Rattle.std.specs.Prelude.{slice_get}
use Rattle.run_numbers.proofs.layers.Layered.push.Goals as goal
use Rattle.run_numbers.proofs.Blocks.{push_is}

pub returns : goal.returns
returns c = push_is c.self.inside.blocks c.self.inside.values c.args.self.now c.self.view_is c.args.v c.push.new.self c.in_ok-push.ensures.ok c.self.invariant
