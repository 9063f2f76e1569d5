use Rattle.std.proofs.Common.{◌≡◌, take}
use Rattle.std.specs.Prelude.{filter_map}
use Rattle.link_program.specs.made_symbols.Made.{made}
use Rattle.link_program.specs.name_rules.Entries.{made_from}
use Rattle.program_tables.specs.Winners.{winner_of}
use Rattle.program_tables.proofs.winners.made_winners.Given as goal

abbrev pub invariant-loop-number : goal.invariant-loop-number
invariant-loop-number l = l.winners ≡ filter_map (winner_of l.entries.names.now.names l.ranks) (take l.number (made_from 0 (made l.mode)))
