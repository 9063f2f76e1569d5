use Rattle.link_image.proofs.making.image.Given as goal

abbrev pub ghost-image_seen : goal.ghost-image_seen
ghost-image_seen g a = g.s
