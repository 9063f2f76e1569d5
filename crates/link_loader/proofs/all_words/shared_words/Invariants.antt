use Rattle.link_loader.proofs.all_words.shared_words.Given as goal

abbrev pub ghost-words_seen : goal.ghost-words_seen
ghost-words_seen g a = g.s
