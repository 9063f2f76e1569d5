use Rattle.lib_rounds.proofs.gather.next_adds.Given as goal

abbrev pub ghost-look_new : goal.ghost-look_new
ghost-look_new g a = g.w
