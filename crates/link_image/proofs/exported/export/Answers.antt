use Rattle.link_program.specs.link_rules.ModeOf.{mode_of}
use Rattle.link_image.proofs.exported.export.Goals as goal

pub export_name-name-requires : goal.export_name-name-requires
export_name-name-requires g c = ((mode_of g.p.plan, c.requires.0), c.requires.1)
