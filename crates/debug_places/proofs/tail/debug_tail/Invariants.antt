use Rattle.debug_places.proofs.tail.debug_tail.Given as goal

abbrev pub ghost-debug_places : goal.ghost-debug_places
ghost-debug_places g a = g.s.stage
