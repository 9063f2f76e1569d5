use Rattle.std.proofs.Common.{rules}
use Rattle.debug_places.proofs.Found.{made_more, made_all}
use Rattle.debug_places.proofs.addresses.plain_addresses.Goals as goal

pub loop-number-preserved : goal.loop-number-preserved
loop-number-preserved g c =
    made_more c.args.layout.placed.now.places c.loop-number.number c.loop-number.made _ _ (search rules) c.loop-number.invariant c.made_address.ensures c.in_ok-push.ensures.ok

pub returns : goal.returns
returns g c = made_all c.args.layout.placed.now.places c.loop-number.number c.loop-number.made (search rules) c.loop-number.invariant
