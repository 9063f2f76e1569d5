use Rattle.link_loader.proofs.own.cell_value.Given as goal

abbrev pub ghost-address : goal.ghost-address
ghost-address g a = g.s
