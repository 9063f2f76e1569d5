use Rattle.called_variants.proofs.keeping.called_only.Given as goal

abbrev pub ghost-kept_by : goal.ghost-kept_by
ghost-kept_by g a = g.p
