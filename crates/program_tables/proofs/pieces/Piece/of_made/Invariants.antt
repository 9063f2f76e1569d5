use Rattle.std.proofs.Common.{take}
use Rattle.link_program.specs.made_symbols.Made.{made}
use Rattle.program_tables.specs.Rows.{made_rows}
use Rattle.program_tables.specs.Gains.{AreGained}
use Rattle.program_tables.proofs.pieces.Piece.of_made.Given as goal

abbrev pub invariant-loop-number : goal.invariant-loop-number
invariant-loop-number l = AreGained (made_rows l.calls 0 (take l.number (made l.mode))) l.made
