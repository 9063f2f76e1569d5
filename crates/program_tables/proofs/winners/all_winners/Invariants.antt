use Rattle.std.proofs.Common.{◌≡◌, ◌++◌, take}
use Rattle.std.specs.Prelude.{filter_map, flat_map}
use Rattle.link_program.specs.made_symbols.Made.{made}
use Rattle.link_program.specs.name_rules.Entries.{made_from}
use Rattle.link_program.specs.name_entries.View.{rows_of}
use Rattle.program_tables.specs.Winners.{winner_of}
use Rattle.program_tables.proofs.winners.all_winners.Given as goal

abbrev pub invariant-loop-object : goal.invariant-loop-object
invariant-loop-object l =
    l.winners ≡ filter_map (winner_of l.entries.names.now.names l.ranks) (made_from 0 (made l.fn.mode))
    ++ flat_map (λ row. filter_map (winner_of l.entries.names.now.names l.ranks) row) (take l.object (rows_of l.entries.objects.now))
