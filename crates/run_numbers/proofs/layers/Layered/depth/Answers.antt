use Rattle.std.proofs.Common.{◌≡◌, ◌+◌, ◌-◌, ◌<◌, ◌≤◌, length, take, drop, refl, sym, ap, ◌∙◌, arith, Some, None}
use Rattle.std.specs.Prelude.{slice_get}
use Rattle.run_numbers.proofs.layers.Layered.depth.Goals as goal
use Rattle.run_numbers.proofs.Blocks.{depth_is}

pub returns : goal.returns
returns c = depth_is c.self.inside.blocks c.self.inside.values c.args.self.now c.self.view_is c.len.result c.len.ensures
