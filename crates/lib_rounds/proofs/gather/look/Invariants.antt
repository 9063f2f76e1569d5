use Rattle.lib_rounds.proofs.gather.look.Given as goal

abbrev pub ghost-offer_of : goal.ghost-offer_of
ghost-offer_of g a = g.w.all
