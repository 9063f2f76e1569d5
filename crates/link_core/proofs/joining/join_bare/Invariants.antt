use Rattle.link_output.specs.link_program.Loaded.{the_candidates}
use Rattle.link_core.proofs.joining.join_bare.Given as goal

abbrev pub ghost-join_loaded : goal.ghost-join_loaded
ghost-join_loaded g a = record {
  origin = record { plan = a.plan.now; files = a.files.now; all = the_candidates a.plan.now a.files.now };
  objects = a.inputs.now.loaded;
}
