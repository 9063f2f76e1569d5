use Rattle.link_image.proofs.made_globals.made_cell.Given as goal

abbrev pub ghost-cell : goal.ghost-cell
ghost-cell g a = g.s
