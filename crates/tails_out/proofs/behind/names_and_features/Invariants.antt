use Rattle.tails_out.proofs.behind.names_and_features.Given as goal

abbrev pub ghost-name_tail : goal.ghost-name_tail
ghost-name_tail g a = g.s.stage

abbrev pub ghost-features_behind : goal.ghost-features_behind
ghost-features_behind g a = g.s
