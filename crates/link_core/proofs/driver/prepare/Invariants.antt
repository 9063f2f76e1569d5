use Rattle.link_core.specs.Chosen.{stage_of}
use Rattle.link_core.specs.Loading.{program_in}
use Rattle.link_core.proofs.driver.prepare.Given as goal

abbrev pub ghost-find_telling : goal.ghost-find_telling
ghost-find_telling g a = g.l.origin

abbrev pub ghost-choose : goal.ghost-choose
ghost-choose g a = program_in g.l

abbrev pub ghost-lay_out : goal.ghost-lay_out
ghost-lay_out g a = record { stage = stage_of (program_in g.l); all = g.l.origin.all }
