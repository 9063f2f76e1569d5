use Rattle.std.proofs.Common.{◌∙◌, ap}
use Rattle.link_program.specs.link_rules.ModeOf.{mode_of}
use Rattle.link_program.specs.link_rules.Marks.{pic_fault}
use Rattle.link_marks.proofs.Fixing.{fixed_is, plain_free}
use Rattle.link_marks.proofs.fixed.first_fixed.Goals as goal

pub returns-in-Plain : goal.returns-in-Plain
returns-in-Plain g c = plain_free g.w.parts ∙ ap (λ m. pic_fault m g.w.parts) (c.in-Plain.ensures ∙ ap mode_of c.requires.0.plan)

pub returns-in-Shared : goal.returns-in-Shared
returns-in-Shared g c =
    c.shared_fault.ensures ∙ fixed_is c.args.program g.w.program c.args.live.now g.w.parts c.requires.0 c.requires.1
    ∙ ap (λ m. pic_fault m g.w.parts) (c.in-Shared.ensures ∙ ap mode_of c.requires.0.plan)
