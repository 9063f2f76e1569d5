use Rattle.std.proofs.Common.{rules, ◌∙◌, ap, map}
use Rattle.link_program.specs.Program.{IsProgram}
use Rattle.link_program.specs.Told.{told_winner}
use Rattle.link_program.specs.link_rules.Marks.{has_calls}
use Rattle.link_marks.proofs.Working.{without_are, all_due}
use Rattle.link_marks.proofs.exported.shared_exports.Goals as goal

pub has_work-requires : goal.has_work-requires
has_work-requires g c κs within =
    let is : IsProgram c.args.program g.p = search rules in
    let exports = c.as_slice.ensures ∙ c.in_ok-without.ensures ∙ ap (map (told_winner c.args.program.names.now.names)) (without_are g.p (has_calls g.p)) in
    (search rules, (search rules, (search rules, (search rules, (is, exports)))))

pub returns : goal.returns
returns g c = c.in_ok-exports.ensures ∙ ap (map (told_winner c.args.program.names.now.names)) (all_due g.p c.in_ok-work.work c.in_ok-work.ensures)
