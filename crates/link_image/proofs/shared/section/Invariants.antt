use Rattle.link_image.proofs.shared.section.Given as goal

abbrev pub ghost-dylink : goal.ghost-dylink
ghost-dylink g a = g.s
