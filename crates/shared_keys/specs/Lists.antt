-- The lists of keys that a shared output has in a form of their own.
use Rattle.std.specs.Prelude.{ℕ, nat_eq, Bool, true, false, List, [], ◌++◌, map, filter, filter_map, Option, Some, option_map}
use Rattle.indexmap.specs.IndexSet.{insert_all}
use Rattle.link_keys.specs.link_program.name_rules.Entries.{ImportKey}
use Rattle.link_keys.specs.link_program.declared.symbol.Winner.{Winner}
use Rattle.link_keys.specs.link_program.declared.keys.FunctionKey.{FunctionKey}
use Rattle.link_keys.specs.link_program.declared.keys.FunctionKey.TheVariants as functions
use Rattle.link_keys.specs.link_program.declared.keys.GotKey.{GotKey}
use Rattle.link_keys.specs.link_program.declared.keys.GotKey.TheVariants as cells
use Rattle.link_keys.specs.link_program.declared.keys.GlobalKey.{GlobalKey}
use Rattle.link_keys.specs.link_program.declared.keys.GlobalKey.TheVariants as globals
use Rattle.link_keys.specs.link_program.declared.program.Tables.{Tables}
use Rattle.link_keys.specs.Noted.{Noted}
use Rattle.link_keys.specs.Lists.{global_imports, own_globals, datum_listed}
use Rattle.shared_keys.specs.Foreign.{put_parts}

-- ---- functions

abbrev pub is_own_function : FunctionKey → Bool
is_own_function (functions.Import n) = false
is_own_function (functions.Own input index) = true
is_own_function (functions.Stub n) = false

-- ---- globals

abbrev pub is_own_cell : GotKey → Bool
is_own_cell (cells.Here d) = true
is_own_cell (cells.Import n) = false
is_own_cell (cells.Null kind) = false

abbrev pub own_cells : List GotKey → List GlobalKey
own_cells cs = map globals.Got (filter is_own_cell cs)

-- The numbers of the imports: of the linker's globals, of the cells for live code and then for live data, of the others that are named;
-- each once.
abbrev pub import_numbers : List (List ℕ) → List ImportKey → List ℕ → Tables → List ℕ → List Bool → Option (List ℕ)
import_numbers names imports made t live flags =
    option_map (λ cs. insert_all nat_eq cs (global_imports imports flags))
    (put_parts names imports t 1 (put_parts names imports t 0 (Some (insert_all nat_eq [] made)) live) live)

abbrev pub globals_by : Tables → List ℕ → List Winner → Noted → List ℕ → List GlobalKey
globals_by t live exports m numbers =
    map globals.Import numbers
    ++ own_globals false t live
    ++ own_cells m.cells
    ++ filter_map datum_listed exports

-- The globals; there are none where a symbol's cell isn't known.
abbrev pub globals_listed : List (List ℕ) → List ImportKey → List ℕ → Tables → List ℕ → List Winner → Noted → Option (List GlobalKey)
globals_listed names imports made t live exports m = option_map (globals_by t live exports m) (import_numbers names imports made t live m.imports)
