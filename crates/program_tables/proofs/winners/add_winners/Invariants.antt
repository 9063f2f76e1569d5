use Rattle.std.proofs.Common.{◌≡◌, [], ◌++◌, take, get_or}
use Rattle.std.specs.Prelude.{filter_map}
use Rattle.link_program.specs.name_entries.View.{rows_of}
use Rattle.program_tables.specs.Winners.{winner_of}
use Rattle.program_tables.proofs.winners.add_winners.Given as goal

abbrev pub invariant-loop-place : goal.invariant-loop-place
invariant-loop-place l =
    l.winners ≡ l.initial.winners ++ filter_map (winner_of l.entries.names.now.names l.ranks) (take l.place (get_or (rows_of l.entries.objects.now) l.object []))
