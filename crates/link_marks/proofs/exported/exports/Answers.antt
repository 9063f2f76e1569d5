use Rattle.std.proofs.Common.{rules, ◌≡◌, ◌∙◌, ap, map, subst}
use Rattle.std.specs.Prelude.{IfOk}
use Rattle.link_program.specs.link_rules.ModeOf.{mode_of}
use Rattle.link_program.specs.link_rules.Marks.{exported}
use Rattle.link_program.specs.Told.{told_winner}
use Rattle.link_program.specs.Program.{IsProgram}
use Rattle.link_marks.proofs.exported.exports.Goals as goal

pub returns-in-Plain : goal.returns-in-Plain
returns-in-Plain g c =
    let is : IsProgram c.args.program g.p = search rules in
    subst (λ m. IfOk c.plain_exports.result (λ es. es ≡ map (told_winner c.args.program.names.now.names) (exported m g.p)))
    (c.in-Plain.ensures ∙ ap mode_of is.plan) c.plain_exports.ensures

pub shared_exports-requires : goal.shared_exports-requires
shared_exports-requires g c κs within =
    let is : IsProgram c.args.program g.p = search rules in
    (search rules, (search rules, (search rules, (search rules, is))))

pub returns-in-Shared : goal.returns-in-Shared
returns-in-Shared g c =
    let is : IsProgram c.args.program g.p = search rules in
    subst (λ m. IfOk c.shared_exports.result (λ es. es ≡ map (told_winner c.args.program.names.now.names) (exported m g.p)))
    (c.in-Shared.ensures ∙ ap mode_of is.plan) c.shared_exports.ensures
