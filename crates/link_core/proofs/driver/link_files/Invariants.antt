use Rattle.link_output.specs.link_program.Loaded.{the_candidates}
use Rattle.link_core.proofs.driver.link_files.Given as goal

abbrev pub ghost-prepare : goal.ghost-prepare
ghost-prepare g a = record {
  origin = record { plan = a.plan.now; files = a.files.now; all = the_candidates a.plan.now a.files.now };
  objects = a.inputs.now.loaded;
}
