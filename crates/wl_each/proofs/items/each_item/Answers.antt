use Rattle.std.proofs.Common.{◌≡◌, ◌*◌, ◌/◌, ◌≤◌, length, drop, ◌∙◌, arith, rules}
use Rattle.std.proofs.Math.Nat.{div-add-mod}
use Rattle.wl_each.proofs.Computed.{all_made, whole_back}
use Rattle.wl_each.proofs.items.each_item.Goals as goal

pub returns : goal.returns
returns g c =
    let item = g.E.Each.value c.args.each.now in
    let count = c.args.count in
    let parts = c.parts_of-parts.result in
    let new = c.each_slice.new.items in
    let old = c.as_mut_slice.result.now in
    let n = c.in_ok-items.items.len in
    let same : length new ≡ length old = search rules in
    let long : length old ≡ count = search rules in
    let size : n ≡ length new = search rules in
    let fits : parts * (count / parts) ≤ count = omega (arith, div-add-mod count parts) in
    whole_back n new (drop (length new) c.in_ok-items.items.items) size
    ∙ all_made item (count / parts) parts count c.parts_of-parts.ensures.0 fits old new long same c.each_slice.ensures
