use Rattle.link_loader.proofs.own.cell_word.Given as goal

abbrev pub ghost-cell_value : goal.ghost-cell_value
ghost-cell_value g a = g.s
