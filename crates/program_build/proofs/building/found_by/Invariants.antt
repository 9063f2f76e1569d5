use Rattle.program_build.proofs.building.found_by.Given as goal

abbrev pub ghost-loosened : goal.ghost-loosened
ghost-loosened g a = g.origin.plan.allow_undefined

abbrev pub ghost-tables_of : goal.ghost-tables_of
ghost-tables_of g a = g.origin
