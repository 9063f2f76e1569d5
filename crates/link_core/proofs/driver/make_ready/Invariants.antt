use Rattle.link_core.proofs.driver.make_ready.Given as goal

abbrev pub ghost-image : goal.ghost-image
ghost-image g a = g.s.stage

abbrev pub ghost-patches : goal.ghost-patches
ghost-patches g a = g.s.stage

abbrev pub ghost-tail_behind : goal.ghost-tail_behind
ghost-tail_behind g a = g.s
