use Rattle.std.proofs.Common.{ap, ◌∙◌}
use Rattle.valid_bodies.specs.Shares.{first_told}
use Rattle.valid_bodies.proofs.Shares.{first_of_runs}
use Rattle.valid_bodies.proofs.sharing.first_untyped_by.Goals as goal

pub returns : goal.returns
returns g c =
    let r = c.in_ok-ranges.ranges in
    let are = c.in_ok-ranges.ensures.ranges in
    first_of_runs c.args.context.now c.args.functions.now c.args.bodies.now r.cuts r.count are.rising c.in_ok-ranges.ensures.count c.in_ok-slots.slots.items c.first_told.result
    c.in_ok-slots.ensures (c.first_told.ensures ∙ ap first_told c.as_slice.ensures.value)
