use Rattle.std.proofs.Common.{rules, subst, map, take}
use Rattle.debug_out.specs.Grouped.{IsGrouped}
use Rattle.debug_out.specs.Refs.{debug_seen}
use Rattle.debug_out.proofs.Grouped.{seen_more, seen_all}
use Rattle.debug_out.proofs.groups.grouped.Goals as goal

pub loop-d-preserved : goal.loop-d-preserved
loop-d-preserved c =
    subst (IsGrouped c.args.names.now.names c.put.new.self) (seen_more c.args.all.now c.loop-d.d-index c.d-item.result c.d-item.is c.loop-d-test.true)
    (c.in_ok-put.ensures (map debug_seen (take c.loop-d.d-index c.args.all.now)) c.loop-d.invariant)

pub returns : goal.returns
returns c = subst (IsGrouped c.args.names.now.names c.loop-d.groups) (seen_all c.args.all.now c.loop-d.d-index (search rules)) c.loop-d.invariant
