use Rattle.std.proofs.Common.{sym, ap, ◌∙◌}
use Rattle.std.specs.Option.{option_map}
use Rattle.std.proofs.lemmas.Option.{same_Some}
use Rattle.program_tables.specs.link_program.name_entries.Shown.{type_seen}
use Rattle.program_tables.specs.link_program.name_entries.View.{entry_at}
use Rattle.program_tables.specs.link_program.name_rules.Entries.{InputSymbol}
use Rattle.loose_calls.proofs.Asked.{no_type}
use Rattle.loose_calls.proofs.variant.type_at.Goals as goal

pub unreachable-requires : goal.unreachable-requires
unreachable-requires c =
    no_type (entry_at c.args.entries.objects.now c.args.object c.args.place) c.requires.there (ap (option_map type_seen) (sym c.in_default.is) ∙ c.type_of.ensures)

pub returns : goal.returns
returns c = λ e there.
    same_Some (type_seen c.in-Some.of_type) e.type
    (ap (option_map type_seen) (sym c.in-Some.is) ∙ c.type_of.ensures ∙ ap (option_map (λ (e : InputSymbol). e.type)) there)
