use Rattle.debug_places.proofs.addresses.made_address.Given as goal

abbrev pub ghost-address : goal.ghost-address
ghost-address g a = g.s
