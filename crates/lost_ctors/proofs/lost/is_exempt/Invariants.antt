use Rattle.lost_ctors.proofs.lost.is_exempt.Given as goal

abbrev pub ghost-names_ctors : goal.ghost-names_ctors
ghost-names_ctors g a = g.p
