use Rattle.lib_rounds.proofs.gather.first_adds.Given as goal

abbrev pub ghost-look_asked : goal.ghost-look_asked
ghost-look_asked g a = g.w

abbrev pub ghost-look_loaded : goal.ghost-look_loaded
ghost-look_loaded g a = g.w
