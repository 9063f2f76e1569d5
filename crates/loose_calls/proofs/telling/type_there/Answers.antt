use Rattle.std.proofs.Common.{ap, sym, ◌∙◌}
use Rattle.std.specs.Option.{option_map}
use Rattle.program_tables.specs.link_program.name_entries.Shown.{type_seen}
use Rattle.program_tables.specs.link_program.link_rules.Keys.{function_type_of}
use Rattle.loose_calls.proofs.Leading.{type_is}
use Rattle.loose_calls.proofs.telling.type_there.Goals as goal

pub returns : goal.returns
returns c = λ d found.
    c.in_ok-own.ensures
    ∙ ap function_type_of
    (type_is c.args.entries.objects.now c.args.input c.args.place c.in-Some.object (type_seen c.in-Some-type_of.of_type) d c.requires.inputs c.in-Some.ensures
    (ap (option_map type_seen) (sym c.in-Some-type_of.is) ∙ c.type_of.ensures) found)
