use Rattle.relink_out.proofs.relink.object.Given as goal

abbrev pub ghost-written_of : goal.ghost-written_of
ghost-written_of g a = g.p
