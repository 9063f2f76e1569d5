use Rattle.link_image.proofs.shared.apply_bytes.Given as goal

abbrev pub ghost-words : goal.ghost-words
ghost-words g a = g.s
