use Rattle.std.proofs.Common.{◌≡◌, take}
use Rattle.link_program.specs.link_rules.Values.{made_data}
use Rattle.debug_places.proofs.addresses.plain_addresses.Given as goal

abbrev pub ghost-made_address : goal.ghost-made_address
ghost-made_address g a = g.s

abbrev pub invariant-loop-number : goal.invariant-loop-number
invariant-loop-number g l = l.made ≡ take l.number (made_data l.layout.placed.now.places)
