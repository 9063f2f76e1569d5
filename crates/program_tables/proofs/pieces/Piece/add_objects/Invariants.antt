use Rattle.std.proofs.Common.{◌-◌}
use Rattle.program_tables.specs.Rows.{rows_from}
use Rattle.program_tables.specs.Gains.{Gains}
use Rattle.program_tables.proofs.pieces.Piece.add_objects.Given as goal

abbrev pub invariant-loop-object : goal.invariant-loop-object
invariant-loop-object l = Gains (rows_from l.lookups l.from (l.object - l.from)) l.fn.self l.self
