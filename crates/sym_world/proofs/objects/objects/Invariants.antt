use Rattle.sym_world.proofs.objects.objects.Given as goal

abbrev pub ghost-bases_of : goal.ghost-bases_of
ghost-bases_of g a = g.s

abbrev pub ghost-world : goal.ghost-world
ghost-world g a = g.s

abbrev pub ghost-segments : goal.ghost-segments
ghost-segments g a = g.s
