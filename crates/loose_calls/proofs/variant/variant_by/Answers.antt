use Rattle.std.proofs.Common.{ap, ◌∙◌}
use Rattle.program_tables.specs.link_program.name_entries.Shown.{type_seen}
use Rattle.program_tables.specs.link_program.link_rules.Program.{renamed}
use Rattle.loose_calls.proofs.variant.variant_by.Goals as goal

pub returns : goal.returns
returns c =
    let name = c.in_ok-name.ensures ∙ ap (renamed (type_seen c.args.of_type)) c.name_of.ensures in
    let own = c.in_ok-own.ensures in
    λ i. record { kind = c.args.symbol.kind; name = name i; of_type = own i }
