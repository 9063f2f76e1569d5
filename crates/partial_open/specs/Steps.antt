-- Flags that are set one after another.
use Rattle.std.specs.Prelude.{ℕ, Bool, List, fold, Option, Some, None}
use Rattle.link_program.specs.reloc_section.declared.entry.Reloc.{Reloc}
use Rattle.link_program.specs.body_windows.declared.operands.Reference.{Reference}
use Rattle.link_program.specs.body_windows.Operands.{operand_of}
use Rattle.link_program.specs.object_columns.declared.functions.FunctionDef.{FunctionDef}
use Rattle.link_program.specs.object_columns.declared.segments.SegmentDef.{SegmentDef}
use Rattle.partial_open.specs.Named.{symbol_named, function_symbols, segment_symbols, marked}

abbrev pub marked_by : List Bool → Option ℕ → List Bool
marked_by flags None = flags
marked_by flags (Some n) = marked flags n

abbrev pub by_reference : List Bool → Reference → List Bool
by_reference flags r = marked_by flags (symbol_named (operand_of r))

abbrev pub by_window : List Bool → Reloc → List Bool
by_window flags w = marked flags w.index

abbrev pub by_function : List Bool → FunctionDef → List Bool
by_function flags f = fold marked flags (function_symbols f)

abbrev pub by_segment : List Bool → SegmentDef → List Bool
by_segment flags g = fold marked flags (segment_symbols g)
