use Rattle.std.proofs.Common.{[]}
use Rattle.partial_items.specs.Groups.{member_with}
use Rattle.partial_items.specs.Lent.{places_seen}
use Rattle.partial_items.proofs.Listed.{found_more}
use Rattle.partial_items.proofs.member.fill.Goals as goal

pub loop-own-preserved : goal.loop-own-preserved
loop-own-preserved c =
    found_more (member_with (places_seen c.args.places) c.args.input c.args.imports) c.args.members.now c.loop-own.own-index _ c.loop-own-test.true [] _ _ _ c.in_ok-put.ensures c.in_ok-found.ensures c.loop-own.invariant
