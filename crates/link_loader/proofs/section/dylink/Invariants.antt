use Rattle.link_loader.proofs.section.dylink.Given as goal

abbrev pub ghost-shared_dylink : goal.ghost-shared_dylink
ghost-shared_dylink g a = g.s
