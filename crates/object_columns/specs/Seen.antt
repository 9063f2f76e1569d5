-- What a lent record tells: the record of what it lends.
use Rattle.std.specs.Prelude.{option_copied}
use Rattle.body_windows.specs.wasm_instr.wasm_types.declared.function.FuncType.{FuncType}
use Rattle.body_windows.specs.wasm_instr.wasm_types.declared.import.Import.{Import}
use Rattle.linking_section.specs.declared.symbol.Symbol.{Symbol}
use Rattle.body_windows.specs.Operands.{operands_seen}
use Rattle.object_columns.specs.declared.functions.FunctionDef.{FunctionDef}
use Rattle.object_columns.specs.declared.functions.FunctionRef.{FunctionRef}
use Rattle.object_columns.specs.declared.func_types.FuncTypeRef.{FuncTypeRef}
use Rattle.object_columns.specs.declared.imports.ImportRef.{ImportRef}
use Rattle.object_columns.specs.declared.symbols.SymbolRef.{SymbolRef}
use Rattle.object_columns.specs.declared.segments.SegmentRef.{SegmentRef}
use Rattle.object_columns.specs.declared.segments.SegmentDef.{SegmentDef}

abbrev pub func_type_seen : FuncTypeRef → FuncType
func_type_seen t = record { params = t.params.now; results = t.results.now }

abbrev pub import_seen : ImportRef → Import
import_seen i = record { «module» = i.«module».now; field = i.field.now; kind = i.kind }

abbrev pub symbol_seen : SymbolRef → Symbol
symbol_seen s = record { kind = s.kind; flags = s.flags; name = option_copied s.name; index = s.index; offset = s.offset; size = s.size }

abbrev pub segment_seen : SegmentRef → SegmentDef
segment_seen s = record { span = s.span; info = record { name = s.name.now; align = s.align; flags = s.flags }; windows = s.windows.now }

abbrev pub function_seen : FunctionRef → FunctionDef
function_seen f = record { type_index = f.type_index; span = f.span; operands = operands_seen f.operands; export_name = option_copied f.export_name }
