-- The lists of keys that the live parts and what is noted of them give.
use Rattle.std.specs.Prelude.{ℕ, zero, suc, ◌==◌, Bool, true, false, not, ◌&&◌, List, [], ◌∷◌, ◌++◌, map, filter, filter_map, length, slice_get, slice_index_or, if◌then◌else◌, Option, Some, None}
use Rattle.std.specs.List.{list_any}
use Rattle.link_program.specs.linking_section.declared.symbol.SymbolKind.TheVariants.{Datum}
use Rattle.link_program.specs.linking_section.Flags.{kind_code}
use Rattle.link_program.specs.mark_bits.declared.chunk.Chunk.{Chunk}
use Rattle.link_program.specs.name_rules.Entries.{ImportKey}
use Rattle.link_program.specs.link_rules.Keys.{is_function_type, is_global_type}
use Rattle.link_program.specs.declared.symbol.Winner.{Winner}
use Rattle.link_program.specs.declared.keys.FunctionKey.{FunctionKey}
use Rattle.link_program.specs.declared.keys.FunctionKey.TheVariants as functions
use Rattle.link_program.specs.declared.keys.GlobalKey.{GlobalKey}
use Rattle.link_program.specs.declared.keys.GlobalKey.TheVariants as globals
use Rattle.link_program.specs.declared.program.Tables.{Tables}
use Rattle.link_keys.specs.declared.codes.Code.{Code}
use Rattle.link_keys.specs.Codes.{same_code, function_code}
use Rattle.link_program.specs.Look.{part_at}
use Rattle.link_keys.specs.Noted.{Noted, where_so}

-- The numbers below a count that pass, rising.
abbrev pub numbers_below : (ℕ → Bool) → ℕ → List ℕ
numbers_below test zero = []
numbers_below test (suc n) = numbers_below test n ++ (if test n then n ∷ [] else [])

abbrev pub flag_at : List Bool → ℕ → Bool
flag_at flags n = slice_index_or flags n false

-- ---- imports

abbrev pub is_function_import : Option ImportKey → Bool
is_function_import None = false
is_function_import (Some k) = is_function_type k.type

abbrev pub is_global_import : Option ImportKey → Bool
is_global_import None = false
is_global_import (Some k) = is_global_type k.type

-- The numbers of the imported functions that are named.
abbrev pub function_imports : List ImportKey → List Bool → List ℕ
function_imports imports flags = numbers_below (λ i. flag_at flags i && is_function_import (slice_get imports i)) (length imports)

abbrev pub global_imports : List ImportKey → List Bool → List ℕ
global_imports imports flags = numbers_below (λ i. flag_at flags i && is_global_import (slice_get imports i)) (length imports)

-- ---- definitions

-- whether the linker's are asked for, or those of objects
abbrev pub is_made_by : Bool → ℕ → Bool
is_made_by true input = input == 0
is_made_by false input = not (input == 0)

abbrev pub is_own : ℕ → Bool → Chunk → Bool
is_own kind linkers c = (c.kind == kind) && is_made_by linkers c.input

abbrev pub own_function_in : Bool → Chunk → Option FunctionKey
own_function_in linkers c = where_so (is_own 0 linkers c) (Some (functions.Own c.input c.index))

abbrev pub own_global_in : Bool → Chunk → Option GlobalKey
own_global_in linkers c = where_so (is_own 2 linkers c) (Some (globals.Own c.input c.index))

abbrev pub chunk_at : Tables → ℕ → Chunk
chunk_at t n = (part_at t n).chunk

abbrev pub own_functions : Bool → Tables → List ℕ → List FunctionKey
own_functions linkers t live = filter_map (λ n. own_function_in linkers (chunk_at t n)) live

abbrev pub own_globals : Bool → Tables → List ℕ → List GlobalKey
own_globals linkers t live = filter_map (λ n. own_global_in linkers (chunk_at t n)) live

-- ---- functions and slots

-- The names whose null functions are called.
abbrev pub stubs_listed : List Bool → ℕ → List ℕ
stubs_listed flags names = numbers_below (flag_at flags) names

abbrev pub functions_listed : List ImportKey → ℕ → Tables → List ℕ → Noted → List FunctionKey
functions_listed imports names t live m =
    map functions.Import (function_imports imports m.imports)
    ++ own_functions true t live
    ++ map functions.Stub (stubs_listed m.stubs names)
    ++ own_functions false t live

abbrev pub is_taken_code : List Code → FunctionKey → Bool
is_taken_code taken key = list_any (same_code (function_code key)) taken

abbrev pub slots_listed : List Code → List FunctionKey → List FunctionKey
slots_listed taken keys = filter (is_taken_code taken) keys

-- ---- globals

abbrev pub datum_listed : Winner → Option GlobalKey
datum_listed w = where_so (kind_code w.definition.kind == kind_code Datum) (Some (globals.Datum w.definition))

abbrev pub globals_listed : List ImportKey → Tables → List ℕ → List Winner → Noted → List GlobalKey
globals_listed imports t live exports m =
    map globals.Import (global_imports imports m.imports)
    ++ own_globals true t live
    ++ own_globals false t live
    ++ map globals.Got m.cells
    ++ filter_map datum_listed exports
