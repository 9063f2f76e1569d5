use Rattle.link_core.specs.Loading.{program_in}
use Rattle.link_core.proofs.joining.join_loaded.Given as goal

abbrev pub ghost-find : goal.ghost-find
ghost-find g a = g.l.origin

abbrev pub ghost-partial : goal.ghost-partial
ghost-partial g a = program_in g.l
