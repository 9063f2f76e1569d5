use Rattle.link_image.proofs.bodies.linker_body.Given as goal

abbrev pub ghost-apply_bytes : goal.ghost-apply_bytes
ghost-apply_bytes g a = g.s
