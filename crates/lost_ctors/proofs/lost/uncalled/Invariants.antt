use Rattle.lost_ctors.proofs.lost.uncalled.Given as goal

abbrev pub ghost-plain_uncalled : goal.ghost-plain_uncalled
ghost-plain_uncalled g a = g.w
