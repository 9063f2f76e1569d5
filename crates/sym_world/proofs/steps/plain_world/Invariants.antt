use Rattle.link_program.specs.Loaded.{the_candidates}
use Rattle.sym_world.proofs.steps.plain_world.Given as goal

abbrev pub ghost-found_world : goal.ghost-found_world
ghost-found_world g a = record {
  origin = record { plan = a.plan.now; files = a.files.now; all = the_candidates a.plan.now a.files.now };
  objects = a.inputs.now.loaded;
}
