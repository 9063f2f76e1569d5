use Rattle.lib_rounds.proofs.call.begin_rounds.Given as goal

abbrev pub ghost-begin : goal.ghost-begin
ghost-begin g a = g.w

abbrev pub ghost-first_adds : goal.ghost-first_adds
ghost-first_adds g a = g.w
