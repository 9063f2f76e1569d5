use Rattle.relink_out.proofs.relink.partial.Given as goal

abbrev pub ghost-object : goal.ghost-object
ghost-object g a = g.p
