use Rattle.link_core.specs.Loading.{program_in}
use Rattle.sym_world.specs.Choosing.{plain_stage}
use Rattle.sym_world.proofs.steps.found_world.Given as goal

abbrev pub ghost-find : goal.ghost-find
ghost-find g a = g.l.origin

abbrev pub ghost-choose : goal.ghost-choose
ghost-choose g a = program_in g.l

abbrev pub ghost-placed_world : goal.ghost-placed_world
ghost-placed_world g a = plain_stage (program_in g.l)
