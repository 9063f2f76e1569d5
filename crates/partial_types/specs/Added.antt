-- The types that are added, by the tables of a program.
use Rattle.std.specs.Prelude.{ℕ, List, filter_map, fold, slice_index_or, Option, Some, None, unwrap_or}
use Rattle.partial_imports.specs.link_program.wasm_types.declared.function.FuncType.{FuncType}
use Rattle.partial_imports.specs.link_program.linking_section.declared.symbol.SymbolKind.{SymbolKind}
use Rattle.partial_imports.specs.link_program.linking_section.declared.symbol.SymbolKind.TheVariants.{Function, Datum, GlobalVar, Section, Table}
use Rattle.partial_imports.specs.link_program.object_file.declared.object.Object.{Object}
use Rattle.partial_imports.specs.link_program.object_file.Spaces.{no_type}
use Rattle.partial_imports.specs.link_program.name_rules.Entries.{InputSymbol, SymbolType, untyped}
use Rattle.partial_imports.specs.link_program.type_merge.Types.{with_type}
use Rattle.partial_imports.specs.link_program.link_rules.Keys.{function_type_of}
use Rattle.partial_imports.specs.link_program.declared.named.Named.{Named}
use Rattle.partial_imports.specs.link_program.declared.named.Named.TheVariants as names
use Rattle.partial_imports.specs.link_program.declared.part.Content.{Content}
use Rattle.partial_imports.specs.link_program.declared.part.Content.TheVariants as contents
use Rattle.partial_imports.specs.link_program.declared.program.Tables.{Tables}
use Rattle.partial_imports.specs.link_program.Look.{part_at, row_at}
use Rattle.partial_imports.specs.partial_symbols.declared.facts.At.{At}
use Rattle.partial_imports.specs.partial_symbols.Known.{symbol_there}
use Rattle.partial_imports.specs.declared.opens.Open.{Open}

-- the type of this number
abbrev pub type_at : List FuncType → ℕ → FuncType
type_at types n = slice_index_or types n no_type

abbrev pub content_type_at : List FuncType → Content → FuncType
content_type_at types (contents.Function number) = type_at types number
content_type_at types (contents.Segment align flags) = no_type
content_type_at types (contents.Global kind value) = no_type
content_type_at types contents.Made = no_type

abbrev pub symbol_type : Option InputSymbol → SymbolType
symbol_type None = untyped
symbol_type (Some e) = e.type

-- The type of the function that stands at a place.
abbrev pub type_there : List Object → At → FuncType
type_there objects at = function_type_of (symbol_type (symbol_there objects at))

-- ---- of imports

abbrev pub if_function : SymbolKind → FuncType → Option FuncType
if_function Function t = Some t
if_function Datum t = None
if_function GlobalVar t = None
if_function Section t = None
if_function Table t = None

-- An open function has the type of the reference whose import it takes, or else its own.
abbrev pub open_type : List Object → Open → Option FuncType
open_type objects o = if_function o.kind (type_there objects (unwrap_or o.import o.at))

-- ---- of kept functions, and of their windows

abbrev pub function_type : Tables → ℕ → FuncType
function_type t n = content_type_at t.types (part_at t n).content

abbrev pub window_type : List FuncType → Named → Option FuncType
window_type types (names.Symbol kind place addend symbol) = None
window_type types (names.Type place number) = Some (type_at types number)

abbrev pub window_types : Tables → ℕ → List FuncType
window_types t n = filter_map (window_type t.types) (row_at t n)

-- ---- the steps

abbrev pub with_option : List FuncType → Option FuncType → List FuncType
with_option types None = types
with_option types (Some t) = with_type types t

abbrev pub with_open : List Object → List FuncType → Open → List FuncType
with_open objects types o = with_option types (open_type objects o)

abbrev pub with_function : Tables → List FuncType → ℕ → List FuncType
with_function t types n = with_type types (function_type t n)

abbrev pub with_window : List FuncType → List FuncType → Named → List FuncType
with_window all types named = with_option types (window_type all named)

abbrev pub with_row : Tables → List FuncType → ℕ → List FuncType
with_row t types n = fold (with_window t.types) types (row_at t n)
