use Rattle.link_inputs.specs.Steps.{all_inputs}
use Rattle.link_inputs.proofs.call.load_sources.Given as goal

abbrev pub ghost-load_given : goal.ghost-load_given
ghost-load_given g a = all_inputs a.plan.now a.files.now
