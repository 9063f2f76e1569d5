use Rattle.std.proofs.Common.{length, ◌<◌, ◌∙◌, arith}
use Rattle.std.proofs.lemmas.List.{length-set}
use Rattle.wl_each.proofs.Computed.{next_put}
use Rattle.wl_each.proofs.dealing.DealingSlices.work.Goals as goal

pub loop-at-preserved : goal.loop-at-preserved
loop-at-preserved g c =
    let item = g.E.Each.value c.args.self.now.each.now in
    let low : c.loop-at.at < length c.loop-at.items = omega (arith, c.loop-at.invariant.long) in
    record {
      long = length-set c.loop-at.items c.loop-at.at c.item.result ∙ c.loop-at.invariant.long;
      made = next_put item c.begin-from.result c.loop-at.at c.loop-at.items c.item.result low c.item.ensures c.loop-at.invariant.made;
    }
