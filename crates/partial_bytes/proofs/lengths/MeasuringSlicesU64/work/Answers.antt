use Rattle.std.proofs.Common.{length, ◌<◌, ◌∙◌, arith}
use Rattle.std.proofs.lemmas.List.{length-set}
use Rattle.wl_each.proofs.Computed.{next_put}
use Rattle.partial_bytes.specs.Measured.{len_there}
use Rattle.partial_bytes.proofs.lengths.MeasuringSlicesU64.work.Goals as goal

pub loop-at-preserved : goal.loop-at-preserved
loop-at-preserved c =
    let len = len_there c.args.self.now.parts.now c.args.self.now.froms.now in
    let low : c.loop-at.at < length c.loop-at.items = omega (arith, c.loop-at.invariant.long) in
    record {
      long = length-set c.loop-at.items c.loop-at.at c.len.result ∙ c.loop-at.invariant.long;
      made = next_put len c.begin-from.result c.loop-at.at c.loop-at.items c.len.result low c.len.ensures c.loop-at.invariant.made;
    }
