use Rattle.link_inputs.proofs.call.load_given.Given as goal

abbrev pub ghost-load_rounds : goal.ghost-load_rounds
ghost-load_rounds g a = g.all
