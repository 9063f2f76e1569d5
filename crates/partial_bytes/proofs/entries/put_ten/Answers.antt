use Rattle.std.proofs.Common.{◌≡◌, ◌≤◌, length, arith, rules}
use Rattle.partial_bytes.proofs.Fronts.{first_put}
use Rattle.partial_bytes.proofs.entries.put_ten.Goals as goal

pub returns : goal.returns
returns c =
    let long : length c.args.bytes.now ≡ 10 = search rules in
    let few : c.args.len ≤ length c.args.bytes.now = omega (arith, long, c.requires.few) in
    let low : c.args.at ≤ length c.args.out.now = omega (arith, c.requires.room.0) in
    first_put c.args.out.now c.put_bytes.new.out c.as_slice.result.now c.args.bytes.now c.args.at c.args.len _ c.as_slice.ensures low few c.put_bytes.ensures
