use Rattle.program_tables.proofs.Defining.{shown_definition}
use Rattle.program_tables.proofs.definitions.definition_at.Goals as goal

pub returns : goal.returns
returns c = λ e there.
    let entries = c.args.entries in
    shown_definition entries.names.now.names entries.objects.now c.args.object c.args.place c.in-Some.entry c.in-Some.ensures e there
