-- All numbers of the output, as data.
use Rattle.std.specs.Prelude.{◌≡◌, ℕ, Bool, true, false, List, map, length, replicate, Option, Some, None, option_map, Result, Ok, Err, pos}
use Rattle.link_keys.specs.link_program.wl_base.declared.fault.What.TheVariants.{TableSize}
use Rattle.link_keys.specs.link_program.wl_base.declared.layout_error.LayoutError.{LayoutError}
use Rattle.link_keys.specs.link_program.wl_base.declared.layout_error.LayoutError.TheVariants.{Overflow, OutOfMemory}
use Rattle.link_keys.specs.link_program.wasm_types.declared.function.FuncType.{FuncType}
use Rattle.link_keys.specs.link_program.object_file.declared.object.Object.{Object}
use Rattle.link_keys.specs.link_program.made_symbols.declared.mode.Mode.{Mode}
use Rattle.link_keys.specs.link_program.name_rules.Entries.{InputSymbol, ImportKey}
use Rattle.link_keys.specs.link_program.link_rules.Program as rules
use Rattle.link_keys.specs.link_program.link_rules.Keys as keys
use Rattle.link_keys.specs.link_program.link_rules.Keys.{type_of}
use Rattle.link_keys.specs.link_program.declared.symbol.Winner.{Winner}
use Rattle.link_keys.specs.link_program.declared.keys.FunctionKey.{FunctionKey}
use Rattle.link_keys.specs.link_program.declared.keys.FunctionKey.TheVariants as functions
use Rattle.link_keys.specs.link_program.declared.keys.GlobalKey.{GlobalKey}
use Rattle.link_keys.specs.link_program.declared.keys.GlobalKey.TheVariants as globals
use Rattle.link_keys.specs.link_program.declared.program.Tables.{Tables}
use Rattle.link_keys.specs.link_program.Keys.{told_function, told_global}
use Rattle.link_keys.specs.Firsts.{firsts_rows}
use Rattle.link_keys.specs.Noted.{Noted, noted_parts, nothing_noted}
use Rattle.link_keys.specs.Lists.{functions_listed, slots_listed, globals_listed}
use Rattle.link_keys.specs.Types.{TypeLists, types_listed, type_number_in}

-- The functions of the output, imports first, those that have slots, by rising number, and the number of the first slot; the globals,
-- imports first; the types. Then for each function the number of its type, and for each type of the program its number.
pub record Numbered : Type 0 where
  pub functions : List FunctionKey
  pub slots : List FunctionKey
  pub first_slot : ℕ
  pub globals : List GlobalKey
  pub types : List FuncType
  pub function_types : List ℕ
  pub type_numbers : List ℕ

-- They are the numbers of a program's live parts, as they are told.
pub record IsNumbering (names : List (List ℕ)) (imports : List ImportKey) (known : List FuncType) (p : rules.Program) (parts : List rules.Part) (n : Numbered) (l : keys.Numbers) : Type 0 where
  pub functions : n.functions ≡ map (told_function names imports) l.functions
  pub slots : n.slots ≡ map (told_function names imports) l.slots
  pub first_slot : n.first_slot ≡ l.first_slot
  pub globals : n.globals ≡ map (told_global imports) l.globals
  pub types : n.types ≡ l.types
  pub function_types : n.function_types ≡ map (λ f. type_number_in l.types (type_of p parts f)) l.functions
  pub type_numbers : n.type_numbers ≡ map (type_number_in l.types) known

-- ---- what the data give

abbrev pub numbered_with : List ImportKey → ℕ → Tables → List Object → List (List (Option ℕ)) → List Winner → List ℕ → Noted → List FunctionKey → TypeLists → Numbered
numbered_with imports names t objects symbols exports live m fs types = record {
  functions = fs;
  slots = slots_listed m.taken fs;
  first_slot = 1;
  globals = globals_listed imports t live exports m;
  types = types.table;
  function_types = types.numbers;
  type_numbers = map (type_number_in types.table) t.types;
}

abbrev pub numbered_by : List ImportKey → ℕ → Tables → List Object → List (List (Option ℕ)) → List Winner → List ℕ → Noted → Numbered
numbered_by imports names t objects symbols exports live m =
    numbered_with imports names t objects symbols exports live m (functions_listed imports names t live m)
    (types_listed imports names t objects (firsts_rows 0 (replicate names None) symbols) live m)

-- The numbers of the live parts, by the imports, the count of names, the tables, the objects, the numbers of their symbols' names, and the
-- exports.
abbrev pub numbered : List ImportKey → ℕ → Tables → List Object → List (List (Option ℕ)) → List Winner → List ℕ → Numbered
numbered imports names t objects symbols exports live =
    numbered_by imports names t objects symbols exports live (noted_parts t (nothing_noted (length imports) names) live)

-- ---- which are imports

abbrev pub is_import : FunctionKey → Bool
is_import (functions.Import n) = true
is_import (functions.Own input index) = false
is_import (functions.Stub n) = false

abbrev pub is_import_global : GlobalKey → Bool
is_import_global (globals.Import n) = true
is_import_global (globals.Own input index) = false
is_import_global (globals.Got key) = false
is_import_global (globals.Datum d) = false

-- ---- what is linked

-- What the definition has of a link: the mode, the program, the exports, and the live parts.
pub record Linked : Type 0 where
  pub mode : Mode
  pub program : rules.Program
  pub exports : List InputSymbol
  pub parts : List rules.Part

-- The answer tells the end of the slots exactly where it passes; want of memory tells nothing.
abbrev pub TellsOverflow : {A : Type 0} → Result A LayoutError → Option ℕ → Type 0
TellsOverflow (Ok a) end = end ≡ None
TellsOverflow (Err (Overflow what needed)) end = (what ≡ TableSize) × (Some needed ≡ option_map pos end)
TellsOverflow (Err OutOfMemory) end = Unit {0}
