-- Lists of records, kept as columns: the record at a place is made of what stands there in each.
use Rattle.std.specs.Prelude.{ℕ, Bool, List, [], ◌∷◌, Option, Some, None, if◌then◌else◌}
use Rattle.body_windows.specs.wasm_instr.wl_base.declared.span.Span.{Span}
use Rattle.body_windows.specs.wasm_instr.wasm_types.declared.value.ValType.{ValType}
use Rattle.body_windows.specs.wasm_instr.wasm_types.declared.function.FuncType.{FuncType}
use Rattle.body_windows.specs.wasm_instr.wasm_types.declared.import.ImportKind.{ImportKind}
use Rattle.body_windows.specs.wasm_instr.wasm_types.declared.import.Import.{Import}
use Rattle.linking_section.specs.declared.symbol.Symbol.{Symbol}
use Rattle.body_windows.specs.reloc_section.declared.entry.Reloc.{Reloc}
use Rattle.body_windows.specs.declared.operands.Reference.{Reference}
use Rattle.body_windows.specs.Operands.{spread}
use Rattle.object_columns.specs.declared.functions.FunctionRow.{FunctionRow}
use Rattle.object_columns.specs.declared.functions.FunctionDef.{FunctionDef}
use Rattle.object_columns.specs.declared.short_span.ShortSpan.{ShortSpan}
use Rattle.object_columns.specs.declared.symbols.SymbolRow.{SymbolRow}
use Rattle.object_columns.specs.declared.segments.SegmentRow.{SegmentRow}
use Rattle.object_columns.specs.declared.segments.SegmentDef.{SegmentDef}

-- Two columns, place by place.
abbrev pub joined : {A B C : Type 0} → (A → B → C) → List A → List B → List C
joined f [] ys = []
joined f (a ∷ xs) [] = []
joined f (a ∷ xs) (b ∷ ys) = f a b ∷ joined f xs ys

-- Three columns.
abbrev pub joined_three : {A B C D : Type 0} → (A → B → C → D) → List A → List B → List C → List D
joined_three f xs ys zs = joined (λ g c. g c) (joined f xs ys) zs

-- A name, if there is one.
abbrev pub maybe : Bool → List ℕ → Option (List ℕ)
maybe is_named name = if is_named then Some name else None

abbrev pub span_of : ShortSpan → Span
span_of s = record { start = s.start; len = s.len }

abbrev pub func_type : List ValType → List ValType → FuncType
func_type params results = record { params = params; results = results }

abbrev pub import_of : ImportKind → List ℕ → List ℕ → Import
import_of kind from field = record { «module» = from; field = field; kind = kind }

abbrev pub symbol_of : SymbolRow → List ℕ → Symbol
symbol_of row name = record { kind = row.kind; flags = row.flags; name = maybe row.is_named name; index = row.index; offset = row.offset; size = row.size }

abbrev pub segment_of : SegmentRow → List ℕ → List Reloc → SegmentDef
segment_of row name windows = record { span = span_of row.span; info = record { name = name; align = row.align; flags = row.flags }; windows = windows }

abbrev pub function_of : FunctionRow → List Reference → List ℕ → FunctionDef
function_of row references name = record { type_index = row.type_index; span = span_of row.span; operands = spread references row.behind; export_name = maybe row.is_exported name }
