use Rattle.link_marks.proofs.exported.has_work.Given as goal

abbrev pub ghost-live_parts : goal.ghost-live_parts
ghost-live_parts g a = g.w
