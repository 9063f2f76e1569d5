use Rattle.tails_out.proofs.behind.tail_behind.Given as goal

abbrev pub ghost-debug_tail : goal.ghost-debug_tail
ghost-debug_tail g a = g.s

abbrev pub ghost-names_and_features : goal.ghost-names_and_features
ghost-names_and_features g a = g.s
