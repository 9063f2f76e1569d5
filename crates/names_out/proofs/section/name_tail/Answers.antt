use Rattle.std.proofs.Common.{◌≡◌, rules, map, subst}
use Rattle.std.specs.Prelude.{IfOk}
use Rattle.link_program.specs.link_rules.ModeOf.{mode_of}
use Rattle.names_out.specs.Told.{label_seen, labels_told}
use Rattle.names_out.proofs.Told.{section_told, was_asked}
use Rattle.names_out.proofs.section.name_tail.Goals as goal

pub returns : goal.returns
returns g c =
    let labels = map label_seen c.deref.result.now in
    let told : labels ≡ labels_told c.args.layout = (let at = c.deref.ensures.value in let are = c.in_ok-labels.ensures in cc) in
    let is = section_told (mode_of g.s.program.plan) g.s.program g.s.parts g.s.exports c.args.layout c.requires (search (rules, was_asked)) labels told in
    subst (λ bytes. IfOk c.section_of.result (λ written. written ≡ bytes)) is c.section_of.ensures
