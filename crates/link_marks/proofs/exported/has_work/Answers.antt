use Rattle.std.proofs.Common.{rules, ◌∙◌, ap}
use Rattle.link_program.specs.link_rules.Marks.{live}
use Rattle.link_program.specs.Program.{IsProgram}
use Rattle.link_marks.specs.Due.{any_work}
use Rattle.link_marks.proofs.Working.{any_told}
use Rattle.link_marks.proofs.exported.has_work.Goals as goal

pub live_parts-requires : goal.live_parts-requires
live_parts-requires g c κs within =
    (search rules, (search rules, (search rules, (search rules, (c.requires.1.1.1.1.0, c.requires.1.1.1.1.1)))))

pub returns : goal.returns
returns g c =
    let is : IsProgram c.args.program g.w.program = search rules in
    c.any_work-work.ensures ∙ ap (any_work c.args.program.tables.now) c.as_slice.ensures
    ∙ any_told c.args.program.names.now.names c.args.program.resolution.now.imports c.args.program.tables.now g.w.program is.tables
    c.in_ok-live.live.numbers (live g.w.program g.w.exports) c.in_ok-live.ensures.are.are
