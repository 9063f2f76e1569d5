use Rattle.link_image.proofs.making.make_held.Given as goal

abbrev pub ghost-bodies : goal.ghost-bodies
ghost-bodies g a = g.s
