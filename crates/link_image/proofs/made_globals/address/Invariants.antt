use Rattle.link_image.proofs.made_globals.address.Given as goal

abbrev pub ghost-address : goal.ghost-address
ghost-address g a = g.s
