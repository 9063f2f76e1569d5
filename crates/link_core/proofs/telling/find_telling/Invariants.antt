use Rattle.link_output.specs.link_program.link_rules.ModeOf.{mode_of}
use Rattle.link_output.specs.link_program.link_rules.Program.{program_of}
use Rattle.link_core.proofs.telling.find_telling.Given as goal

abbrev pub ghost-find : goal.ghost-find
ghost-find g a = g.origin

abbrev pub ghost-mismatches_in : goal.ghost-mismatches_in
ghost-mismatches_in g a = program_of (mode_of a.plan.now) a.plan.now g.origin.files g.origin.all a.objects.now
