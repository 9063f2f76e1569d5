use Rattle.std.proofs.Common.{◌≡◌, take, map}
use Rattle.std.specs.Prelude.{filter_map}
use Rattle.link_program.specs.body_windows.Operands.{operand_of}
use Rattle.program_tables.specs.Views.{view_seen}
use Rattle.program_tables.specs.Rows.{operand_named}
use Rattle.program_tables.proofs.view.ObjectView.name_operands.Given as goal

abbrev pub invariant-loop-reference : goal.invariant-loop-reference
invariant-loop-reference l = l.row ≡ filter_map (operand_named (view_seen l.self)) (take l.reference-index (map operand_of l.operands.references.now))
