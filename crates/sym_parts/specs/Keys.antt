-- All functions and cells of a program, live or dead, by the data.
use Rattle.std.specs.Prelude.{◌≡◌, ℕ, nat_eq, ◌==◌, Bool, true, false, ◌&&◌, List, [], ◌++◌, map, filter_map, fold, length, slice_get, slice_index_or, Option, Some, None}
use Rattle.indexmap.specs.IndexMap.{get}
use Rattle.indexmap.specs.IndexSet.{insert_key}
use Rattle.link_program.specs.linking_section.Flags.{kind_code}
use Rattle.link_program.specs.linking_section.declared.symbol.SymbolKind.TheVariants.{Function as FunctionKind}
use Rattle.link_program.specs.name_rules.Entries.{ImportKey}
use Rattle.link_program.specs.declared.symbol.Symbol.{Symbol}
use Rattle.link_program.specs.declared.keys.FunctionKey.{FunctionKey}
use Rattle.link_program.specs.declared.keys.FunctionKey.TheVariants as functions
use Rattle.link_program.specs.declared.keys.GlobalKey.{GlobalKey}
use Rattle.link_program.specs.declared.keys.GlobalKey.TheVariants as globals
use Rattle.link_program.specs.declared.named.Named.{Named}
use Rattle.link_program.specs.declared.named.Named.TheVariants as names
use Rattle.link_program.specs.declared.part.Part.{Part}
use Rattle.link_program.specs.declared.program.Tables.{Tables}
use Rattle.link_program.specs.Seen.{no_symbol}
use Rattle.link_keys.specs.declared.codes.Code.{Code}
use Rattle.link_keys.specs.Codes.{same_code}
use Rattle.link_keys.specs.Noted.{where_so, is_null_lead}
use Rattle.link_keys.specs.Lists.{numbers_below, is_function_import, is_global_import, own_function_in, own_global_in}
use Rattle.link_numbers.specs.Places.{place_of}
use Rattle.sym_parts.specs.declared.places.Places.{Places}

-- Each code is found by its place among these.
abbrev pub ArePlaces : List Code → Places → Type 0
ArePlaces codes places = (code : Code) → get same_code places.map code ≡ place_of codes code

-- ---- null functions

-- The name of a null function.
abbrev pub null_name : Symbol → Option ℕ
null_name s = where_so (is_null_lead s.lead && (kind_code s.kind == kind_code FunctionKind)) s.name

abbrev pub null_named : List Symbol → Named → Option ℕ
null_named symbols (names.Symbol kind place addend symbol) = null_name (slice_index_or symbols symbol no_symbol)
null_named symbols (names.Type place number) = None

abbrev pub with_name : List ℕ → Option ℕ → List ℕ
with_name held None = held
with_name held (Some n) = insert_key nat_eq held n

abbrev pub with_null : List Symbol → List ℕ → Named → List ℕ
with_null symbols held named = with_name held (null_named symbols named)

abbrev pub with_nulls : List Symbol → List ℕ → List Named → List ℕ
with_nulls symbols held row = fold (with_null symbols) held row

-- The names of all null functions to which parts refer, by number, in first-seen order.
abbrev pub nulls_of : Tables → List ℕ
nulls_of t = fold (with_nulls t.symbols) [] t.named

-- ---- functions and cells

abbrev pub own_function : Bool → Part → Option FunctionKey
own_function linkers part = own_function_in linkers part.chunk

abbrev pub own_global : Bool → Part → Option GlobalKey
own_global linkers part = own_global_in linkers part.chunk

abbrev pub imported_functions : List ImportKey → List ℕ
imported_functions imports = numbers_below (λ i. is_function_import (slice_get imports i)) (length imports)

abbrev pub imported_globals : List ImportKey → List ℕ
imported_globals imports = numbers_below (λ i. is_global_import (slice_get imports i)) (length imports)

-- What symbols import, the linker's own functions, a stub for each null name, and the functions of objects.
abbrev pub functions_of : List ImportKey → Tables → List FunctionKey
functions_of imports t =
    map functions.Import (imported_functions imports)
    ++ filter_map (own_function true) t.parts
    ++ map functions.Stub (nulls_of t)
    ++ filter_map (own_function false) t.parts

-- What symbols import, the linker's own globals, and the globals of objects.
abbrev pub cells_of : List ImportKey → Tables → List GlobalKey
cells_of imports t =
    map globals.Import (imported_globals imports)
    ++ filter_map (own_global true) t.parts
    ++ filter_map (own_global false) t.parts
