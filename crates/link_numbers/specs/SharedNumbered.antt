-- All numbers of a shared output, as data.
use Rattle.std.specs.Prelude.{ℕ, false, List, map, filter, length, replicate, Option, None, option_map}
use Rattle.link_keys.specs.link_program.object_file.declared.object.Object.{Object}
use Rattle.link_keys.specs.link_program.declared.symbol.Winner.{Winner}
use Rattle.link_keys.specs.link_program.declared.keys.FunctionKey.{FunctionKey}
use Rattle.link_keys.specs.link_program.declared.keys.GlobalKey.{GlobalKey}
use Rattle.link_keys.specs.link_program.declared.program.Program.{Program}
use Rattle.link_keys.specs.Firsts.{firsts_rows}
use Rattle.link_keys.specs.Noted.{Noted, noted_parts, nothing_noted}
use Rattle.link_keys.specs.Lists.{functions_listed, slots_listed}
use Rattle.link_keys.specs.Types.{TypeLists, types_listed, type_number_in}
use Rattle.shared_keys.specs.Called.{flag_parts}
use Rattle.shared_keys.specs.Lists.{is_own_function, globals_listed}
use Rattle.link_numbers.specs.Numbered.{Numbered}

-- What is noted of the live parts, with the imports that they call, or refer to as globals.
abbrev pub shared_noted : Program → List ℕ → Noted
shared_noted d live =
    record (noted_parts d.tables.now (nothing_noted (length d.resolution.now.imports) (length d.names.now.names)) live) {
      imports = flag_parts d.tables.now (replicate (length d.resolution.now.imports) false) live;
    }

-- The link's own ones of these functions that have slots.
abbrev pub shared_slots : Noted → List FunctionKey → List FunctionKey
shared_slots m fs = slots_listed m.taken (filter is_own_function fs)

abbrev pub all_functions : Program → List ℕ → Noted → List FunctionKey
all_functions d live m = functions_listed d.resolution.now.imports (length d.names.now.names) d.tables.now live m

abbrev pub all_slots : Program → List ℕ → Noted → List FunctionKey
all_slots d live m = shared_slots m (all_functions d live m)

abbrev pub all_types : Program → List Object → List ℕ → Noted → TypeLists
all_types d objects live m =
    types_listed d.resolution.now.imports (length d.names.now.names) d.tables.now objects
    (firsts_rows 0 (replicate (length d.names.now.names) None) d.names.now.symbols) live m

-- The numbers, with these globals.
abbrev pub shared_with : Program → List FunctionKey → List FunctionKey → TypeLists → List GlobalKey → Numbered
shared_with d fs ss types globals = record {
  functions = fs;
  slots = ss;
  first_slot = 0;
  globals = globals;
  types = types.table;
  function_types = types.numbers;
  type_numbers = map (type_number_in types.table) d.tables.now.types;
}

-- The numbers by what is noted; there are none where a symbol's cell isn't known.
abbrev pub shared_by : Program → List Object → List Winner → List ℕ → Noted → Option Numbered
shared_by d objects exports live m =
    option_map (shared_with d (all_functions d live m) (all_slots d live m) (all_types d objects live m))
    (globals_listed d.names.now.names d.resolution.now.imports d.resolution.now.made d.tables.now live exports m)

abbrev pub shared_numbered : Program → List Object → List Winner → List ℕ → Option Numbered
shared_numbered d objects exports live = shared_by d objects exports live (shared_noted d live)
