use Rattle.lib_rounds.proofs.loading.add.Given as goal

abbrev pub ghost-load : goal.ghost-load
ghost-load g a = g.c
