use Rattle.link_image.proofs.bodies.body.Given as goal

abbrev pub ghost-linker_body : goal.ghost-linker_body
ghost-linker_body g a = g.s
