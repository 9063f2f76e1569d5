use Rattle.link_loader.proofs.windows.window_word.Given as goal

abbrev pub ghost-symbol_value : goal.ghost-symbol_value
ghost-symbol_value g a = g.s
