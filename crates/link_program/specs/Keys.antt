-- What the data tell of the keys of the definition's numbered things, and when two such keys are one.
use Rattle.std.specs.Prelude.{ℕ, ◌==◌, Bool, false, ◌&&◌, List, Option, unwrap_or}
use Rattle.name_meanings.specs.name_entries.wl_base.Names.{number_of}
use Rattle.index_layout.specs.Numbers.{number_by}
use Rattle.name_meanings.specs.name_entries.name_rules.Entries.{ImportKey, same_import}
use Rattle.link_rules.specs.Keys as rules
use Rattle.link_rules.specs.Keys.{outside, linker_function, stub, own, got_entry, got_import, got_null, outside_global, linker_global, own_global, got, exported_datum}
use Rattle.link_program.specs.declared.symbol.Definition.{Definition}
use Rattle.link_program.specs.declared.keys.FunctionKey.{FunctionKey}
use Rattle.link_program.specs.declared.keys.FunctionKey.TheVariants as functions
use Rattle.link_program.specs.declared.keys.GotKey.{GotKey}
use Rattle.link_program.specs.declared.keys.GotKey.TheVariants as cells
use Rattle.link_program.specs.declared.keys.GlobalKey.{GlobalKey}
use Rattle.link_program.specs.declared.keys.GlobalKey.TheVariants as globals
use Rattle.link_program.specs.Told.{told_definition}

-- ---- told keys

abbrev pub told_import : List ImportKey → ImportKey → ℕ
told_import imports key = number_by same_import imports key

abbrev pub told_function : List (List ℕ) → List ImportKey → rules.FunctionKey → FunctionKey
told_function names imports (outside k) = functions.Import (told_import imports k)
told_function names imports (linker_function n) = functions.Own 0 n
told_function names imports (stub name) = functions.Stub (unwrap_or (number_of names name) 0)
told_function names imports (own input index) = functions.Own input index

abbrev pub told_got : List ImportKey → rules.GotKey → GotKey
told_got imports (got_entry e) = cells.Here (told_definition e)
told_got imports (got_import k) = cells.Import (told_import imports k)
told_got imports (got_null kind) = cells.Null kind

abbrev pub told_global : List ImportKey → rules.GlobalKey → GlobalKey
told_global imports (outside_global k) = globals.Import (told_import imports k)
told_global imports (linker_global n) = globals.Own 0 n
told_global imports (own_global input index) = globals.Own input index
told_global imports (got key) = globals.Got (told_got imports key)
told_global imports (exported_datum e) = globals.Datum (told_definition e)

-- ---- equality

abbrev pub same_definition : Definition → Definition → Bool
same_definition a b = (a.input == b.input) && (a.place == b.place)

abbrev pub same_function_key : FunctionKey → FunctionKey → Bool
same_function_key (functions.Import a) (functions.Import b) = a == b
same_function_key (functions.Own a i) (functions.Own b j) = (a == b) && (i == j)
same_function_key (functions.Stub a) (functions.Stub b) = a == b
same_function_key a b = false

abbrev pub same_got_key : GotKey → GotKey → Bool
same_got_key (cells.Here a) (cells.Here b) = same_definition a b
same_got_key (cells.Import a) (cells.Import b) = a == b
same_got_key (cells.Null a) (cells.Null b) = a == b
same_got_key a b = false

abbrev pub same_global_key : GlobalKey → GlobalKey → Bool
same_global_key (globals.Import a) (globals.Import b) = a == b
same_global_key (globals.Own a i) (globals.Own b j) = (a == b) && (i == j)
same_global_key (globals.Got a) (globals.Got b) = same_got_key a b
same_global_key (globals.Datum a) (globals.Datum b) = same_definition a b
same_global_key a b = false
