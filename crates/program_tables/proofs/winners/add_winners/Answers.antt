use Rattle.std.proofs.Common.{arith, get_or, []}
use Rattle.link_program.specs.name_entries.View.{rows_of}
use Rattle.program_tables.specs.Winners.{winner_of}
use Rattle.program_tables.proofs.Steps.{some_at, kept_more}
use Rattle.program_tables.proofs.winners.add_winners.Goals as goal

pub winner_at-requires-clause-there : goal.winner_at-requires-clause-there
winner_at-requires-clause-there c = some_at (get_or (rows_of c.args.entries.objects.now) c.args.object []) c.loop-place.place (omega arith)

pub loop-place-preserved : goal.loop-place-preserved
loop-place-preserved c =
    kept_more (winner_of c.args.entries.names.now.names c.args.ranks.now) (get_or (rows_of c.args.entries.objects.now) c.args.object []) c.loop-place.place c.args.winners.now c.loop-place.winners _
    c.winner_at.result (omega arith) c.loop-place.invariant c.winner_at.ensures c.in_ok-push_some.ensures
