use Rattle.sym_world.proofs.objects.world.Given as goal

abbrev pub ghost-functions : goal.ghost-functions
ghost-functions g a = g.s

abbrev pub ghost-table : goal.ghost-table
ghost-table g a = g.s

abbrev pub ghost-exports_of : goal.ghost-exports_of
ghost-exports_of g a = g.s
