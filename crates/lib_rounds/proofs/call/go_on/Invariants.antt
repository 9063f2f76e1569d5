use Rattle.lib_rounds.proofs.call.go_on.Given as goal

abbrev pub ghost-run : goal.ghost-run
ghost-run g a = g.w
