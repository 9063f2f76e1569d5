use Rattle.link_image.proofs.making.image_seen.Given as goal

abbrev pub ghost-custom : goal.ghost-custom
ghost-custom g a = g.s

abbrev pub ghost-make_defined : goal.ghost-make_defined
ghost-make_defined g a = g.s

abbrev pub ghost-make_held : goal.ghost-make_held
ghost-make_held g a = g.s
