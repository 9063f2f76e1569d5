use Rattle.sym_world.proofs.world.exports_of.Given as goal

abbrev pub ghost-add_winners : goal.ghost-add_winners
ghost-add_winners g a = g.s
