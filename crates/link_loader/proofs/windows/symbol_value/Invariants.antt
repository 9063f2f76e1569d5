use Rattle.link_loader.proofs.windows.symbol_value.Given as goal

abbrev pub ghost-own_value : goal.ghost-own_value
ghost-own_value g a = g.s
