use Rattle.std.proofs.Common.{take}
use Rattle.std.specs.Prelude.{filter}
use Rattle.link_program.specs.link_rules.Program.{indexed}
use Rattle.program_tables.specs.Views.{view_seen}
use Rattle.program_tables.specs.Rows.{function_row, keeps_row}
use Rattle.program_tables.specs.Gains.{Gains}
use Rattle.program_tables.proofs.pieces.Piece.add_functions.Given as goal

abbrev pub invariant-loop-index : goal.invariant-loop-index
invariant-loop-index l = Gains (filter (keeps_row (view_seen l.view)) (indexed (function_row (view_seen l.view)) 0 (take l.index l.view.from.now.functions))) l.fn.self l.self
