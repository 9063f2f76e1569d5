use Rattle.lib_rounds.proofs.running.round.Given as goal

abbrev pub ghost-add_all : goal.ghost-add_all
ghost-add_all g a = g.w

abbrev pub ghost-next_adds : goal.ghost-next_adds
ghost-next_adds g a = g.w
