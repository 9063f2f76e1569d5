use Rattle.std.proofs.Common.{◌≡◌, ◌+◌, ◌-◌, ◌<◌, ◌≤◌, length, take, drop, refl, sym, ap, ◌∙◌, arith, Some, None}
use Rattle.std.specs.Prelude.{slice_get}
use Rattle.run_numbers.proofs.layers.Layered.close.Goals as goal
use Rattle.run_numbers.proofs.Blocks.{close_is}

pub returns : goal.returns
returns c = close_is c.self.inside.blocks c.self.inside.values c.args.self.now c.self.view_is c.in_ok-block.block c.pop.new.self c.in_ok-block.ensures c.self.invariant
