-- The imports of the output, by the data alone.
use Rattle.std.specs.Prelude.{ℕ, List, [], ◌∷◌, slice_get, Option, Some, None, option_map}
use Rattle.std.specs.List.{cons_option}
use Rattle.link_program.specs.wasm_types.declared.import.Import.{Import}
use Rattle.link_program.specs.wasm_types.declared.import.ImportKind.{ImportKind}
use Rattle.link_program.specs.wasm_types.declared.import.ImportKind.TheVariants as kinds
use Rattle.link_program.specs.name_rules.Entries.{ImportKey, SymbolType, of_function, of_global, untyped}
use Rattle.link_program.specs.declared.keys.FunctionKey.{FunctionKey}
use Rattle.link_program.specs.declared.keys.FunctionKey.TheVariants as functions
use Rattle.link_program.specs.declared.keys.GlobalKey.{GlobalKey}
use Rattle.link_program.specs.declared.keys.GlobalKey.TheVariants as globals

-- what is imported, by its type and, of a function, the number of the type
abbrev pub kind_seen : SymbolType → ℕ → ImportKind
kind_seen (of_function t) number = kinds.Function number
kind_seen (of_global g) number = kinds.GlobalVar g
kind_seen untyped number = kinds.Function 0

-- the import of a number, under its module and field
abbrev pub import_seen : List ImportKey → ℕ → ℕ → Option Import
import_seen imports at number = option_map (λ k. record { «module» = k.module_name; field = k.field; kind = kind_seen k.type number }) (slice_get imports at)

abbrev pub function_seen : List ImportKey → FunctionKey → ℕ → Option Import
function_seen imports (functions.Import at) number = import_seen imports at number
function_seen imports (functions.Own input index) number = None
function_seen imports (functions.Stub name) number = None

abbrev pub global_seen : List ImportKey → GlobalKey → Option Import
global_seen imports (globals.Import at) = import_seen imports at 0
global_seen imports (globals.Own input index) = None
global_seen imports (globals.Got key) = None
global_seen imports (globals.Datum d) = None

-- The imported functions, by the numbers of their types; the imported globals.
abbrev pub functions_seen : List ImportKey → List ℕ → List FunctionKey → List Import
functions_seen imports [] fs = []
functions_seen imports (t ∷ ts) [] = []
functions_seen imports (t ∷ ts) (f ∷ fs) = cons_option (function_seen imports f t) (functions_seen imports ts fs)
