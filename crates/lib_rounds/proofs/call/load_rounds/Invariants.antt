use Rattle.lib_rounds.proofs.call.load_rounds.Given as goal

abbrev pub ghost-begin_rounds : goal.ghost-begin_rounds
ghost-begin_rounds g a = record { mode = a.mode; all = g.all }

abbrev pub ghost-go_on : goal.ghost-go_on
ghost-go_on g a = record { mode = a.mode; all = g.all }
