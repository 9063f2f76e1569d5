use Rattle.program_build.proofs.building.find.Given as goal

abbrev pub ghost-meanings_of : goal.ghost-meanings_of
ghost-meanings_of g a = g.origin

abbrev pub ghost-found_by : goal.ghost-found_by
ghost-found_by g a = record { plan = a.plan.now; files = g.origin.files; all = g.origin.all }
