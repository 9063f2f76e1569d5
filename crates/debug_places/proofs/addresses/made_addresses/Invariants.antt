use Rattle.debug_places.proofs.addresses.made_addresses.Given as goal

abbrev pub ghost-plain_addresses : goal.ghost-plain_addresses
ghost-plain_addresses g a = g.s
