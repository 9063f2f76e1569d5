use Rattle.called_variants.proofs.keeping.keep.Given as goal

abbrev pub ghost-is_called : goal.ghost-is_called
ghost-is_called g a = g.p
