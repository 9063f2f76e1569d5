use Rattle.std.proofs.Common.{◌≡◌, ◌*◌, ◌/◌, ◌≤◌, length, drop, ◌∙◌, arith, rules}
use Rattle.std.proofs.Math.Nat.{div-add-mod}
use Rattle.wl_each.proofs.Computed.{all_made, whole_back}
use Rattle.partial_bytes.specs.Measured.{len_there}
use Rattle.partial_bytes.proofs.lengths.lens_by.Goals as goal

pub returns : goal.returns
returns g c =
    let len = len_there c.args.parts.now c.args.froms.now in
    let count = length c.args.parts.now in
    let runs = c.runs_of-runs.result in
    let new = c.each_slice.new.items in
    let old = c.as_mut_slice.result.now in
    let n = c.in_ok-lens.lens.len in
    let same : length new ≡ length old = search rules in
    let long : length old ≡ count = search rules in
    let size : n ≡ length new = search rules in
    let fits : runs * (count / runs) ≤ count = omega (arith, div-add-mod count runs) in
    whole_back n new (drop (length new) c.in_ok-lens.lens.items) size
    ∙ all_made len (count / runs) runs count c.runs_of-runs.ensures.0 fits old new long same c.each_slice.ensures
