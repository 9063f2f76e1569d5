use Rattle.std.proofs.Common.{◌∙◌}
use Rattle.program_tables.specs.link_program.name_entries.View.{entry_at}
use Rattle.program_tables.proofs.Defining.{shown_as}
use Rattle.loose_calls.specs.Found.{variant_from}
use Rattle.loose_calls.proofs.variant.variant_of.Goals as goal

pub returns : goal.returns
returns c = λ e there.
    let shows = shown_as c.args.entries.names.now.names c.in-Some.entry (entry_at c.args.entries.objects.now c.args.object c.args.place) e c.in-Some.ensures there in
    let of = c.type_at-of_type.ensures e there in
    c.in_ok-variant.ensures ∙ (λ i. variant_from (shows.symbol i) (of i))
