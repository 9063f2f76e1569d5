use Rattle.link_loader.proofs.all_words.words.Given as goal

abbrev pub ghost-shared_words : goal.ghost-shared_words
ghost-shared_words g a = g.s
