use Rattle.std.proofs.Common.{◌≡◌, ◌+◌, ◌-◌, ◌<◌, ◌≤◌, length, take, drop, refl, sym, ap, ◌∙◌, arith, Some, None}
use Rattle.std.specs.Prelude.{slice_get}
use Rattle.run_numbers.proofs.layers.Layered.pop.Goals as goal
use Rattle.run_numbers.proofs.Blocks.{pop_is, none_is}

pub returns : goal.returns
returns c = pop_is c.self.inside.blocks c.self.inside.values c.args.self.now c.self.view_is c.in_ok-v.v c.pop.new.self c.in_ok-v.ensures c.self.invariant (omega (arith, c.count.ensures))
