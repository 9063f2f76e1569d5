use Rattle.link_image.proofs.shared.custom.Given as goal

abbrev pub ghost-section : goal.ghost-section
ghost-section g a = g.s
