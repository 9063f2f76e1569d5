use Rattle.std.proofs.Common.{◌∙◌, ◌++◌, [], ap, map, subst}
use Rattle.link_program.specs.link_rules.ModeOf.{mode_of}
use Rattle.link_program.specs.link_rules.Marks.{first_repeat}
use Rattle.link_program.specs.Answers.{Passes}
use Rattle.link_marks.specs.Names.{given_seen, memory_given}
use Rattle.link_marks.proofs.Winning.{winner_names_held, numbers_held, repeats_are}
use Rattle.link_marks.proofs.repeated.repeated_export.Goals as goal

pub first_repeat-requires-clause-names : goal.first_repeat-requires-clause-names
first_repeat-requires-clause-names g c =
    numbers_held c.args.program.names.now.names g.w.program.winners g.w.exports c.args.exports.now (winner_names_held (mode_of g.w.program.plan) c.args.program g.w.program c.requires.0) c.requires.1.0 c.requires.1.1

pub returns : goal.returns
returns g c =
    let given = map (given_seen c.args.program.objects.now c.args.program.names.now.names) c.args.exports.now in
    subst (Passes c.refuse.result)
    (c.in_ok-fault.ensures ∙ ap (λ b. first_repeat [] (memory_given b ++ given)) c.imports_memory-imports_memory.ensures
    ∙ repeats_are c.args.program g.w.program g.w.exports c.args.exports.now c.requires.0 c.requires.1.0 c.requires.1.1)
    c.refuse.ensures
