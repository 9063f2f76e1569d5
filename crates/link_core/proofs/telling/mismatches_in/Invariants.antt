use Rattle.link_core.proofs.telling.mismatches_in.Given as goal

abbrev pub ghost-mismatches : goal.ghost-mismatches
ghost-mismatches g a = g.p.plan.allow_undefined

abbrev pub ghost-called_only : goal.ghost-called_only
ghost-called_only g a = g.p
