-- Worked links: which definition of a name wins, and what is refused.
use Rattle.std.specs.Prelude.{ℕ, true, List, [], ◌∷◌, ◌++◌, Some, Ok, Err, codes}
use Rattle.name_rules.specs.object_file.declared.object.Object.{Object}
use Rattle.made_symbols.specs.declared.mode.Mode.TheVariants.{Plain}
use Rattle.link_plan.specs.declared.plan.Plan.{Plan}
use Rattle.link_rules.specs.LinkOf.{link_by}
use Rattle.name_rules.specs.object_file.wl_base.declared.fault.Fault.TheVariants.{Duplicate, Unresolved, Clash}
use Rattle.name_rules.specs.object_file.wasm_types.declared.value.ValType.TheVariants.{I32, I64}
use Rattle.link_rules.specs.Examples.{hex, Row, plan_of, exporting, read_as, empty_object, span, function_symbol, datum_symbol, segment_at, body_at, names, function_import, plain_type, int_type}

-- what every module here begins with, and its table and memory: one slot, two pages
abbrev pub header : List ℕ
header = hex (codes "00 61 73 6D 01 00 00 00")

abbrev pub storage : List ℕ
storage = hex (codes "04 05 01 70 01 01 01 05 03 01 00 02")

-- ---- one object

-- f calls g, which gives 7
abbrev pub calling : Object
calling = record (empty_object 1) {
  types = int_type ∷ [];
  functions = body_at 0 (span 0 8) (names 0 2 1 ∷ []) ∷ body_at 0 (span 8 4) [] ∷ [];
  symbols = function_symbol 0 (codes "f") 0 ∷ function_symbol 0 (codes "g") 1 ∷ [];
}

abbrev pub calling_file : List ℕ
calling_file = hex (codes "00 10 81 80 80 80 00 0B 00 41 07 0B")

abbrev pub call : Row
call = record {
  link = link_by Plain (read_as (calling ∷ [])) (exporting 1 (codes "f" ∷ [])) (calling_file ∷ []);
  answer = Ok (header ++ hex (codes "01 05 01 60 00 01 7F 03 03 02 00 00") ++ storage
      ++ hex (codes "07 0E 02 06 6D 65 6D 6F 72 79 02 00 01 66 00 00 0A 0F 02 08 00 10 81 80 80 80 00 0B 04 00 41 07 0B"));
}

-- the object exports f as e
abbrev pub named_by_object : Row
named_by_object = record {
  link = link_by Plain (read_as (record calling { functions = record (body_at 0 (span 0 8) (names 0 2 1 ∷ [])) { export_name = Some (codes "e") } ∷ body_at 0 (span 8 4) [] ∷ [] } ∷ []))
      (exporting 1 (codes "f" ∷ [])) (calling_file ∷ []);
  answer = Ok (header ++ hex (codes "01 05 01 60 00 01 7F 03 03 02 00 00") ++ storage
      ++ hex (codes "07 0E 02 06 6D 65 6D 6F 72 79 02 00 01 65 00 00 0A 0F 02 08 00 10 81 80 80 80 00 0B 04 00 41 07 0B"));
}

-- an object without anything
abbrev pub empty_bytes : List ℕ
empty_bytes = header ++ storage ++ hex (codes "07 0A 01 06 6D 65 6D 6F 72 79 02 00")

abbrev pub nothing : Row
nothing = record { link = link_by Plain (read_as (empty_object 1 ∷ [])) (plan_of 1) ([] ∷ []); answer = Ok empty_bytes }

-- f adds two i64
abbrev pub adding : Row
adding = record {
  link = link_by Plain (read_as (record (empty_object 1) {
    types = record { params = I64 ∷ I64 ∷ []; results = I64 ∷ [] } ∷ [];
    functions = body_at 0 (span 0 7) [] ∷ [];
    symbols = function_symbol 0 (codes "f") 0 ∷ [];
  } ∷ [])) (exporting 1 (codes "f" ∷ [])) (hex (codes "00 20 00 20 01 7C 0B") ∷ []);
  answer = Ok (header ++ hex (codes "01 07 01 60 02 7E 7E 01 7E 03 02 01 00") ++ storage
      ++ hex (codes "07 0E 02 06 6D 65 6D 6F 72 79 02 00 01 66 00 00 0A 09 01 07 00 20 00 20 01 7C 0B"));
}

-- ---- several definitions

-- an f with these flags, in a file that is its body
abbrev pub defining : ℕ → ℕ → Object
defining input flags = record (empty_object input) { types = int_type ∷ []; functions = body_at 0 (span 0 4) [] ∷ []; symbols = function_symbol flags (codes "f") 0 ∷ [] }

abbrev pub giving_1 : List ℕ
giving_1 = hex (codes "00 41 01 0B")

abbrev pub giving_2 : List ℕ
giving_2 = hex (codes "00 41 02 0B")

-- the module in which f is the one function, with this body
abbrev pub one_function : List ℕ → List ℕ
one_function body = header ++ hex (codes "01 05 01 60 00 01 7F 03 02 01 00") ++ storage
    ++ hex (codes "07 0E 02 06 6D 65 6D 6F 72 79 02 00 01 66 00 00 0A 06 01 04") ++ body

-- A strong definition wins, whichever comes first; of two weak ones the first.
abbrev pub weak_first : Row
weak_first = record { link = link_by Plain (read_as (defining 1 1 ∷ defining 2 0 ∷ [])) (exporting 2 (codes "f" ∷ [])) (giving_2 ∷ giving_1 ∷ []); answer = Ok (one_function giving_1) }

abbrev pub strong_first : Row
strong_first = record { link = link_by Plain (read_as (defining 1 0 ∷ defining 2 1 ∷ [])) (exporting 2 (codes "f" ∷ [])) (giving_1 ∷ giving_2 ∷ []); answer = Ok (one_function giving_1) }

abbrev pub both_weak : Row
both_weak = record { link = link_by Plain (read_as (defining 1 1 ∷ defining 2 1 ∷ [])) (exporting 2 (codes "f" ∷ [])) (giving_2 ∷ hex (codes "00 41 03 0B") ∷ []); answer = Ok (one_function giving_2) }

-- Two strong ones are refused, among inputs that have nothing.
abbrev pub both_strong : Row
both_strong = record {
  link = link_by Plain (read_as (empty_object 1 ∷ defining 2 0 ∷ empty_object 3 ∷ empty_object 4 ∷ defining 5 0 ∷ [])) (exporting 5 (codes "f" ∷ [])) ([] ∷ giving_1 ∷ [] ∷ [] ∷ giving_2 ∷ []);
  answer = Err (Duplicate (codes "f") 2 5);
}

-- Input 1 refers to g as (i32) to () in dead code, input 2 defines it as () to ().
abbrev pub differing : Row
differing = record {
  link = link_by Plain (read_as (
      record (empty_object 1) {
        types = record { params = I32 ∷ []; results = [] } ∷ plain_type ∷ [];
        imports = function_import (codes "env") (codes "g") 0 ∷ [];
        functions = body_at 1 (span 0 10) (names 0 4 1 ∷ []) ∷ [];
        symbols = function_symbol 2 (codes "dead") 1 ∷ function_symbol 0x10 (codes "g") 0 ∷ [];
      } ∷ record (empty_object 2) { types = plain_type ∷ []; functions = body_at 0 (span 0 2) [] ∷ []; symbols = function_symbol 0 (codes "g") 0 ∷ [] } ∷ []))
      (plan_of 2) (hex (codes "00 41 00 10 80 80 80 80 00 0B") ∷ hex (codes "00 0B") ∷ []);
  answer = Err (Clash (codes "g") 1 2);
}

-- In a link that is like lld's f calls g as (i32) to (), which is a call of a function of this type that traps; h takes its address, which
-- is that of the definition of input 2.
abbrev pub otherwise : Object
otherwise = record (empty_object 1) {
  types = record { params = I32 ∷ []; results = [] } ∷ plain_type ∷ [];
  imports = function_import (codes "env") (codes "g") 0 ∷ [];
  functions = body_at 1 (span 0 10) (names 0 4 2 ∷ []) ∷ body_at 1 (span 10 9) (names 1 2 2 ∷ []) ∷ [];
  symbols = function_symbol 0 (codes "f") 1 ∷ function_symbol 0 (codes "h") 2 ∷ function_symbol 0x10 (codes "g") 0 ∷ [];
}

abbrev pub otherwise_file : List ℕ
otherwise_file = hex (codes "00 41 00 10 80 80 80 80 00 0B 00 41 80 80 80 80 00 1A 0B")

abbrev pub defining_g : Object
defining_g = record (empty_object 2) { types = plain_type ∷ []; functions = body_at 0 (span 0 2) [] ∷ []; symbols = function_symbol 0 (codes "g") 0 ∷ [] }

abbrev pub like_lld : List (List ℕ) → Plan
like_lld exports = record (exporting 2 exports) { like_lld = true; loose_calls = true }

abbrev pub called_otherwise : Row
called_otherwise = record {
  link = link_by Plain (read_as (otherwise ∷ defining_g ∷ [])) (like_lld (codes "f" ∷ codes "h" ∷ [])) (otherwise_file ∷ hex (codes "00 0B") ∷ []);
  answer = Ok (header ++ hex (codes "01 08 02 60 01 7F 00 60 00 00 03 05 04 00 01 01 01 04 05 01 70 01 02 02 05 03 01 00 02")
      ++ hex (codes "07 12 03 06 6D 65 6D 6F 72 79 02 00 01 66 00 01 01 68 00 02 09 07 01 00 41 01 0B 01 03")
      ++ hex (codes "0A 1D 04 03 00 00 0B 0A 00 41 00 10 80 80 80 80 00 0B 09 00 41 81 80 80 80 00 1A 0B 02 00 0B"));
}

-- Where f alone is exported, g is dead, although it is called by its name.
abbrev pub called_alone : Row
called_alone = record {
  link = link_by Plain (read_as (otherwise ∷ defining_g ∷ [])) (like_lld (codes "f" ∷ [])) (otherwise_file ∷ hex (codes "00 0B") ∷ []);
  answer = Ok (header ++ hex (codes "01 08 02 60 01 7F 00 60 00 00 03 03 02 00 01") ++ storage
      ++ hex (codes "07 0E 02 06 6D 65 6D 6F 72 79 02 00 01 66 00 01 0A 10 02 03 00 00 0B 0A 00 41 00 10 80 80 80 80 00 0B"));
}

-- A datum g, and two references of different types without a definition, clash there too.
abbrev pub other_kind : Row
other_kind = record {
  link = link_by Plain (read_as (otherwise ∷ record (empty_object 2) { segments = segment_at (span 0 2) 0 [] ∷ []; symbols = datum_symbol 0 (codes "g") 0 0 2 ∷ [] } ∷ []))
      (like_lld (codes "f" ∷ [])) (otherwise_file ∷ hex (codes "00 0B") ∷ []);
  answer = Err (Clash (codes "g") 2 1);
}

abbrev pub both_undefined : Row
both_undefined = record {
  link = link_by Plain (read_as (otherwise ∷ record (empty_object 2) {
    types = plain_type ∷ [];
    imports = function_import (codes "env") (codes "g") 0 ∷ [];
    symbols = function_symbol 0x10 (codes "g") 0 ∷ [];
  } ∷ [])) (like_lld (codes "f" ∷ [])) (otherwise_file ∷ [] ∷ []);
  answer = Err (Clash (codes "g") 1 2);
}

-- ---- no definition

-- f calls an undefined x, which has these flags
abbrev pub wanting : ℕ → Object
wanting flags = record (empty_object 1) {
  types = plain_type ∷ [];
  imports = function_import (codes "env") (codes "x") 0 ∷ [];
  functions = body_at 0 (span 0 8) (names 0 2 1 ∷ []) ∷ [];
  symbols = function_symbol 0 (codes "f") 1 ∷ function_symbol flags (codes "x") 0 ∷ [];
}

abbrev pub wanting_file : List ℕ
wanting_file = hex (codes "00 10 80 80 80 80 00 0B")

-- Where f is dead, x needs no definition; where it is exported, x is unresolved, or imported with `--allow-undefined`.
abbrev pub dead_call : Row
dead_call = record { link = link_by Plain (read_as (wanting 0x10 ∷ [])) (plan_of 1) (wanting_file ∷ []); answer = Ok empty_bytes }

abbrev pub live_call : Row
live_call = record { link = link_by Plain (read_as (wanting 0x10 ∷ [])) (exporting 1 (codes "f" ∷ [])) (wanting_file ∷ []); answer = Err (Unresolved (codes "x") 1) }

abbrev pub allowed_call : Row
allowed_call = record {
  link = link_by Plain (read_as (wanting 0x10 ∷ [])) (record (exporting 1 (codes "f" ∷ [])) { allow_undefined = true }) (wanting_file ∷ []);
  answer = Ok (header ++ hex (codes "01 04 01 60 00 00 02 09 01 03 65 6E 76 01 78 00 00 03 02 01 00") ++ storage
      ++ hex (codes "07 0E 02 06 6D 65 6D 6F 72 79 02 00 01 66 00 01 0A 0A 01 08 00 10 80 80 80 80 00 0B"));
}

-- An exported name without a definition is asked for by the linker itself.
abbrev pub no_export : Row
no_export = record { link = link_by Plain (read_as (empty_object 1 ∷ [])) (exporting 1 (codes "y" ∷ [])) ([] ∷ []); answer = Err (Unresolved (codes "y") 0) }

-- w is WEAK and undefined: f calls it, which is a call of the stub, and g takes its address, which is 0.
abbrev pub null_call : Row
null_call = record {
  link = link_by Plain (read_as (record (empty_object 1) {
    types = plain_type ∷ [];
    imports = function_import (codes "env") (codes "w") 0 ∷ [];
    functions = body_at 0 (span 0 8) (names 0 2 2 ∷ []) ∷ body_at 0 (span 8 9) (names 1 2 2 ∷ []) ∷ [];
    symbols = function_symbol 0 (codes "f") 1 ∷ function_symbol 0 (codes "g") 2 ∷ function_symbol 0x11 (codes "w") 0 ∷ [];
  } ∷ [])) (exporting 1 (codes "f" ∷ codes "g" ∷ [])) (hex (codes "00 10 80 80 80 80 00 0B 00 41 80 80 80 80 00 1A 0B") ∷ []);
  answer = Ok (header ++ hex (codes "01 04 01 60 00 00 03 04 03 00 00 00") ++ storage
      ++ hex (codes "07 12 03 06 6D 65 6D 6F 72 79 02 00 01 66 00 01 01 67 00 02")
      ++ hex (codes "0A 18 03 03 00 00 0B 08 00 10 80 80 80 80 00 0B 09 00 41 80 80 80 80 00 1A 0B"));
}

-- p and q are undefined with EXPLICIT_NAME, and both name the field f of the module m: one import.
abbrev pub importing : ℕ → List ℕ → List ℕ → Object
importing input caller name = record (empty_object input) {
  types = plain_type ∷ [];
  imports = function_import (codes "m") (codes "f") 0 ∷ [];
  functions = body_at 0 (span 0 8) (names 0 2 1 ∷ []) ∷ [];
  symbols = function_symbol 0x20 caller 1 ∷ function_symbol 0x50 name 0 ∷ [];
}

abbrev pub one_import : Row
one_import = record {
  link = link_by Plain (read_as (importing 1 (codes "a") (codes "p") ∷ importing 2 (codes "b") (codes "q") ∷ [])) (plan_of 2) (wanting_file ∷ wanting_file ∷ []);
  answer = Ok (header ++ hex (codes "01 04 01 60 00 00 02 07 01 01 6D 01 66 00 00 03 03 02 00 00") ++ storage
      ++ hex (codes "07 12 03 06 6D 65 6D 6F 72 79 02 00 01 61 00 01 01 62 00 02 0A 13 02 08 00 10 80 80 80 80 00 0B 08 00 10 80 80 80 80 00 0B"));
}

-- Two exports of one name: the second is a duplicate, here of the memory's name.
abbrev pub memory_twice : Row
memory_twice = record {
  link = link_by Plain (read_as (record (defining 1 0) { symbols = function_symbol 0 (codes "memory") 0 ∷ [] } ∷ [])) (exporting 1 (codes "memory" ∷ [])) (giving_1 ∷ []);
  answer = Err (Duplicate (codes "memory") 0 1);
}

-- ---- all of them

abbrev pub rows : List Row
rows = call ∷ named_by_object ∷ nothing ∷ adding ∷ weak_first ∷ strong_first ∷ both_weak ∷ both_strong ∷ differing
    ∷ called_otherwise ∷ called_alone ∷ other_kind ∷ both_undefined
    ∷ dead_call ∷ live_call ∷ allowed_call ∷ no_export ∷ null_call ∷ one_import ∷ memory_twice ∷ []
