-- The imports of the object.
use Rattle.std.specs.Prelude.{ℕ, ◌==◌, Bool, true, false, ◌&&◌, List, map, if◌then◌else◌, Option, Some, None, option_map, option_and_then, unwrap_or, codes}
use Rattle.partial_tree.specs.link_program.wl_base.Choice.{first_some}
use Rattle.partial_tree.specs.link_program.wasm_types.declared.function.FuncType.{FuncType}
use Rattle.partial_tree.specs.link_program.wasm_types.declared.import.Import.{Import}
use Rattle.partial_tree.specs.link_program.wasm_types.declared.import.ImportKind.{ImportKind}
use Rattle.partial_tree.specs.link_program.wasm_types.declared.import.ImportKind.TheVariants as kinds
use Rattle.partial_tree.specs.link_program.linking_section.declared.symbol.SymbolKind.{SymbolKind}
use Rattle.partial_tree.specs.link_program.linking_section.declared.symbol.SymbolKind.TheVariants.{Function, Datum, GlobalVar, Section, Table}
use Rattle.partial_tree.specs.link_program.object_file.declared.object.Object.{Object}
use Rattle.partial_tree.specs.link_program.name_rules.Entries.{InputSymbol, ImportKey, SymbolType, of_function, of_global, untyped, is_kind, name_of}
use Rattle.partial_tree.specs.partial_symbols.declared.facts.At.{At}
use Rattle.partial_tree.specs.partial_symbols.declared.facts.Spot.{Spot}
use Rattle.partial_tree.specs.partial_symbols.Known.{entry_spot, symbol_there, import_there}
use Rattle.partial_types.specs.partial_imports.declared.opens.Open.{Open}
use Rattle.partial_types.specs.Added.{symbol_type}
use Rattle.partial_items.specs.Types.{number_in}

-- ---- what an import is

abbrev pub kind_with : List FuncType → SymbolType → ImportKind
kind_with types (of_function t) = kinds.Function (number_in types t)
kind_with types (of_global g) = kinds.GlobalVar g
kind_with types untyped = kinds.Table (record { funcref = true; limits = record { min = 0; max = None } })

abbrev pub kind_there : List FuncType → List Object → At → ImportKind
kind_there types objects at = kind_with types (symbol_type (symbol_there objects at))

-- The import on which a symbol stands.
abbrev pub import_with : ImportKind → ImportKey → Import
import_with kind k = record { «module» = k.module_name; field = k.field; kind = kind }

-- That of a name no reference of which stands on one.
abbrev pub own_import : ImportKind → InputSymbol → Import
own_import kind e = record { «module» = codes "env"; field = name_of e; kind = kind }

abbrev pub import_by : ImportKind → List Object → At → Option At → Option Import
import_by kind objects own (Some at) = option_map (import_with kind) (import_there objects at)
import_by kind objects own None = option_map (own_import kind) (symbol_there objects own)

abbrev pub import_told : List FuncType → List Object → Open → Option Import
import_told types objects o = import_by (kind_there types objects (unwrap_or o.import o.at)) objects o.at o.import

-- ---- which symbols have one

abbrev pub spot_at : List Object → At → Option Spot
spot_at objects at = option_map entry_spot (symbol_there objects at)

abbrev pub table_spot : InputSymbol → Option Spot
table_spot e = if is_kind Table e then Some (entry_spot e) else None

abbrev pub table_at : List Object → At → Option Spot
table_at objects at = option_and_then table_spot (symbol_there objects at)

-- The first symbol of a table.
abbrev pub first_table : List Object → List At → Option Spot
first_table objects ats = first_some (map (table_at objects) ats)

abbrev pub same_spot : Option Spot → Option Spot → Bool
same_spot (Some a) (Some b) = (a.input == b.input) && (a.place == b.place)
same_spot (Some a) None = false
same_spot None b = false

abbrev pub takes_import : Option Spot → Option Spot → SymbolKind → Bool
takes_import table own Function = true
takes_import table own Datum = false
takes_import table own GlobalVar = true
takes_import table own Section = false
takes_import table own Table = same_spot own table

abbrev pub import_if : List FuncType → List Object → Option Spot → Open → Option Import
import_if types objects table o = if takes_import table (spot_at objects o.at) o.kind then import_told types objects o else None
