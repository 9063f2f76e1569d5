use Rattle.std.proofs.Common.{◌∙◌, filter}
use Rattle.link_marks.specs.Seen.{is_export}
use Rattle.link_marks.proofs.Winning.{exports_are}
use Rattle.link_marks.proofs.exported.plain_exports.Goals as goal

pub returns : goal.returns
returns g c =
    c.in_ok-exports.ensures ∙ (λ i. filter (is_export (c.deref.ensures.value i) c.args.program.plan.now.export_dynamic) (c.as_slice-winners.ensures i))
    ∙ exports_are c.args.program g.p c.in_ok-asked.asked.items c.requires c.in_ok-asked.ensures
