use Rattle.std.proofs.Common.{◌≡◌, ◌+◌, ◌-◌, ◌<◌, ◌≤◌, length, take, drop, refl, sym, ap, ◌∙◌, arith, Some, None}
use Rattle.std.specs.Prelude.{slice_get}
use Rattle.run_numbers.proofs.layers.Layered.open.Goals as goal
use Rattle.run_numbers.proofs.Blocks.{open_is}

pub returns : goal.returns
returns c =
    open_is c.self.inside.blocks c.self.inside.values c.args.self.now c.self.view_is c.args.params (record { target = c.args.target; arity = c.args.arity; height = c.len.result - c.args.params }) c.push.new.self
    c.in_ok-push.ensures.ok (ap (λ n. n - c.args.params) c.len.ensures) c.self.invariant c.requires
