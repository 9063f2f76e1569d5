use Rattle.std.proofs.Common.{◌≡◌, ◌+◌, ◌-◌, ◌<◌, ◌≤◌, length, take, drop, refl, sym, ap, ◌∙◌, arith, Some, None}
use Rattle.std.specs.Prelude.{slice_get}
use Rattle.run_numbers.proofs.layers.Layered.take_top.Goals as goal
use Rattle.run_numbers.proofs.Blocks.{take_is}

pub returns-clause-left : goal.returns-clause-left
returns-clause-left c = take_is c.self.inside.blocks c.self.inside.values c.args.self.now c.self.view_is c.args.count c.take_top.new.self c.in_ok-top.ensures.left c.self.invariant c.requires
