use Rattle.lost_ctors.proofs.lost.plain_uncalled.Given as goal

abbrev pub ghost-is_exempt : goal.ghost-is_exempt
ghost-is_exempt g a = g.w.program
