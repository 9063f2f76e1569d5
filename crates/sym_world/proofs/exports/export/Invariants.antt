use Rattle.sym_world.proofs.exports.export.Given as goal

abbrev pub ghost-export_name : goal.ghost-export_name
ghost-export_name g a = g.s.program

abbrev pub ghost-target : goal.ghost-target
ghost-target g a = g.s
