use Rattle.tails_out.proofs.behind.features_behind.Given as goal

abbrev pub ghost-object_spans : goal.ghost-object_spans
ghost-object_spans g a = record { plan = g.s.stage.program.plan; files = g.s.stage.program.files; all = g.s.all }
