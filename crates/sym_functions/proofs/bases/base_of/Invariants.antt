use Rattle.sym_functions.proofs.bases.base_of.Given as goal

abbrev pub ghost-address : goal.ghost-address
ghost-address g a = g.s
