use Rattle.link_image.proofs.made_globals.global.Given as goal

abbrev pub ghost-made_cell : goal.ghost-made_cell
ghost-made_cell g a = g.s

abbrev pub ghost-address : goal.ghost-address
ghost-address g a = g.s
