use Rattle.debug_places.proofs.places.debug_places.Given as goal

abbrev pub ghost-made_addresses : goal.ghost-made_addresses
ghost-made_addresses g a = g.s
