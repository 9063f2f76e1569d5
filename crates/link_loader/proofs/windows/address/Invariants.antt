use Rattle.link_loader.proofs.windows.address.Given as goal

abbrev pub ghost-address : goal.ghost-address
ghost-address g a = g.s
