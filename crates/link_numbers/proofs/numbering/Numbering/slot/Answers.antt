use Rattle.std.proofs.Common.{◌≡◌, ◌+◌, ◌<◌, ◌^◌, arith}
use Rattle.link_keys.specs.link_program.index_layout.Numbers.{number_by}
use Rattle.link_keys.specs.link_program.Keys.{same_function_key}
use Rattle.link_numbers.proofs.Coded.{slot_below}
use Rattle.link_numbers.proofs.numbering.Numbering.slot.Goals as goal

pub overflow_add-result : goal.overflow_add-result
overflow_add-result c =
    let n = c.self.inside in
    let e : c.of_or_first.result ≡ number_by same_function_key n.slots c.args.key = c.of_or_first.ensures in
    let room : n.first_slot + number_by same_function_key n.slots c.args.key < 2 ^ 32 = slot_below n.first_slot n.slots c.args.key c.self.invariant.2 in
    omega (arith, e, room)
