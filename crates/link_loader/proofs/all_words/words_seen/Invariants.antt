use Rattle.link_loader.proofs.all_words.words_seen.Given as goal

abbrev pub ghost-add_segments : goal.ghost-add_segments
ghost-add_segments g a = g.s

abbrev pub ghost-add_cells : goal.ghost-add_cells
ghost-add_cells g a = g.s
