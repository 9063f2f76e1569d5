use Rattle.lib_rounds.proofs.loading.load.Given as goal

abbrev pub ghost-fill : goal.ghost-fill
ghost-fill g a = g.c
