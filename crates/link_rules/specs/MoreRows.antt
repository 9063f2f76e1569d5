-- Worked links: the generated case of two objects, a small program, more of libraries, and shared outputs.
use Rattle.std.specs.Prelude.{Some, true, ℕ, List, [], ◌∷◌, ◌++◌, None, Ok, Err, codes}
use Rattle.name_rules.specs.object_file.declared.object.Object.{Object}
use Rattle.made_symbols.specs.declared.mode.Mode.TheVariants.{Plain, Shared}
use Rattle.link_rules.specs.LinkOf.{link_by}
use Rattle.name_rules.specs.object_file.wl_base.declared.fault.Fault.TheVariants.{NotPic}
use Rattle.name_rules.specs.object_file.wasm_types.declared.import.ImportKind.TheVariants as kinds
use Rattle.name_rules.specs.object_file.wasm_types.declared.value.ValType.TheVariants.{I32}
use Rattle.name_rules.specs.object_file.linking_section.declared.symbol.Symbol.{Symbol}
use Rattle.name_rules.specs.object_file.linking_section.declared.symbol.SymbolKind.{SymbolKind}
use Rattle.name_rules.specs.object_file.linking_section.declared.symbol.SymbolKind.TheVariants.{GlobalVar, Table}
use Rattle.name_rules.specs.object_file.body_windows.declared.operand.Operand.TheVariants as operands
use Rattle.lib_index.specs.Library.{Contents}
use Rattle.link_rules.specs.Examples.{hex, Row, plan_of, exporting, read_as, read_with, empty_object, span, function_symbol, datum_symbol, body_at, names, word_at, group_of, segment_at, function_import, plain_type, int_type}
use Rattle.link_rules.specs.NameRows.{header, storage}
use Rattle.link_rules.specs.LoadingRows.{needing, needing_file}

-- ---- the generated case: f0 calls f1 and w, and each adds its own word of data; both objects have the group of w

abbrev pub first_generated : Object
first_generated = record (empty_object 1) {
  types = int_type ∷ [];
  imports = record { «module» = codes "env"; field = codes "__linear_memory"; kind = kinds.Memory (record { min = 1; max = None }) } ∷ function_import (codes "env") (codes "f1") 0 ∷ [];
  functions = body_at 0 (span 0 25) (names 0 2 3 ∷ names 0 8 1 ∷ names 4 15 2 ∷ []) ∷ body_at 0 (span 25 8) [] ∷ [];
  segments = segment_at (span 33 4) 2 [] ∷ [];
  symbols = function_symbol 0 (codes "f0") 1 ∷ function_symbol 1 (codes "w") 2 ∷ datum_symbol 0 (codes "d0") 0 0 4 ∷ function_symbol 0x10 (codes "f1") 0 ∷ [];
  groups = group_of (codes "w") (2 ∷ []) [] ∷ [];
}

abbrev pub last_generated : Object
last_generated = record (empty_object 2) {
  types = int_type ∷ [];
  imports = record { «module» = codes "env"; field = codes "__linear_memory"; kind = kinds.Memory (record { min = 1; max = None }) } ∷ [];
  functions = body_at 0 (span 0 18) (names 0 2 1 ∷ names 4 8 2 ∷ []) ∷ body_at 0 (span 18 8) [] ∷ [];
  segments = segment_at (span 26 4) 2 [] ∷ [];
  symbols = function_symbol 0 (codes "f1") 0 ∷ function_symbol 1 (codes "w") 1 ∷ datum_symbol 0 (codes "d1") 0 0 4 ∷ [];
  groups = group_of (codes "w") (1 ∷ []) [] ∷ [];
}

abbrev pub generated_files : List (List ℕ)
generated_files =
    (hex (codes "00 10 80 80 80 80 00 10 80 80 80 80 00 6A 41 80 80 80 80 00 28 02 00 6A 0B") ++ hex (codes "00 41 80 80 80 80 00 0B 01 00 00 00"))
    ∷ (hex (codes "00 10 80 80 80 80 00 41 80 80 80 80 00 28 02 00 6A 0B") ++ hex (codes "00 41 81 80 80 80 00 0B 02 00 00 00"))
    ∷ []

abbrev pub two_generated : Row
two_generated = record {
  link = link_by Plain (read_as (first_generated ∷ last_generated ∷ [])) (exporting 2 (codes "f0" ∷ [])) generated_files;
  answer = Ok (hex (codes "00 61 73 6D 01 00 00 00 01 05 01 60 00 01 7F 03 04 03 00 00 00 04 05 01 70 01 01 01 05 03 01 00 02 07 0F 02 06 6D 65 6D 6F 72 79 02 00 02 66 30 00 00")
      ++ hex (codes "0A 37 03 19 00 10 82 80 80 80 00 10 81 80 80 80 00 6A 41 80 88 80 80 00 28 02 00 6A 0B 08 00 41 80 80 80 80 00 0B")
      ++ hex (codes "12 00 10 81 80 80 80 00 41 84 88 80 80 00 28 02 00 6A 0B 0B 0F 01 00 41 80 08 0B 08 01 00 00 00 02 00 00 00"));
}

-- ---- a small program as a compiler of C writes it: it imports its memory, its table and its stack pointer, and exits by a call of WASI

abbrev pub undefined_symbol : SymbolKind → List ℕ → Symbol
undefined_symbol kind name = record { kind = kind; flags = 0x10; name = Some name; index = 0; offset = 0; size = 0 }

abbrev pub program : Object
program = record (empty_object 1) {
  types = plain_type ∷ record { params = I32 ∷ []; results = [] } ∷ [];
  imports =
      record { «module» = codes "env"; field = codes "__linear_memory"; kind = kinds.Memory (record { min = 1; max = None }) }
      ∷ record { «module» = codes "env"; field = codes "__indirect_function_table"; kind = kinds.Table (record { funcref = true; limits = record { min = 1; max = None } }) }
      ∷ record { «module» = codes "env"; field = codes "__stack_pointer"; kind = kinds.GlobalVar (record { kind = I32; var = true }) }
      ∷ function_import (codes "wasi_snapshot_preview1") (codes "proc_exit") 1
      ∷ [];
  functions =
      body_at 0 (span 0 51) (names 7 2 1 ∷ names 4 9 4 ∷ operands.Number ∷ names 4 19 5 ∷ names 1 26 6 ∷ operands.TypeRef 32 0 ∷ names 20 37 3 ∷ names 0 45 2 ∷ [])
      ∷ body_at 0 (span 51 2) []
      ∷ [];
  segments = segment_at (span 53 4) 2 [] ∷ segment_at (span 57 4) 2 [] ∷ [];
  symbols =
      function_symbol 4 (codes "_start") 1
      ∷ undefined_symbol GlobalVar (codes "__stack_pointer")
      ∷ function_symbol 0x50 (codes "proc_exit") 0
      ∷ undefined_symbol Table (codes "__indirect_function_table")
      ∷ datum_symbol 4 (codes "data") 0 0 4
      ∷ datum_symbol 4 (codes "bss") 1 0 4
      ∷ function_symbol 2 (codes "helper") 2
      ∷ [];
}

abbrev pub program_file : List ℕ
program_file =
    hex (codes "00 23 80 80 80 80 00 1A 41 80 80 80 80 00 28 02 00 1A 41 80 80 80 80 00 1A 41 80 80 80 80 00")
    ++ hex (codes "11 80 80 80 80 00 80 80 80 80 00 41 00 10 80 80 80 80 00 0B 00 0B 01 02 03 04 00 00 00 00")

abbrev pub a_program : Row
a_program = record {
  link = link_by Plain (read_as (program ∷ [])) (record (plan_of 1) { entry = Some (codes "_start") }) (program_file ∷ []);
  answer = Ok (header ++ hex (codes "01 08 02 60 01 7F 00 60 00 00 02 24 01 16") ++ codes "wasi_snapshot_preview1" ++ 9 ∷ codes "proc_exit"
      ++ hex (codes "00 00 03 03 02 01 01 04 05 01 70 01 02 02 05 03 01 00 02 06 08 01 7F 01 41 90 88 04 0B")
      ++ hex (codes "07 13 02 06 6D 65 6D 6F 72 79 02 00 06 5F 73 74 61 72 74 00 01 09 07 01 00 41 01 0B 01 02")
      ++ hex (codes "0A 38 02 33 00 23 80 80 80 80 00 1A 41 80 88 80 80 00 28 02 00 1A 41 84 88 80 80 00 1A 41 81 80 80 80 00")
      ++ hex (codes "11 81 80 80 80 00 80 80 80 80 00 41 00 10 80 80 80 80 00 0B 02 00 0B 0B 0B 01 00 41 80 08 0B 04 01 02 03 04"));
}

-- ---- libraries: members that need one another, two that offer one name, and one that comes first

-- a member that defines one name and calls another
abbrev pub linked_member : ℕ → List ℕ → List ℕ → Object
linked_member input name needs = record (empty_object input) {
  types = plain_type ∷ [];
  imports = function_import (codes "env") needs 0 ∷ [];
  functions = body_at 0 (span 0 8) (names 0 2 1 ∷ []) ∷ [];
  symbols = function_symbol 0 name 1 ∷ function_symbol 0x10 needs 0 ∷ [];
}

abbrev pub cyclic_library : List ℕ
cyclic_library = hex (codes "21 3C 61 72 63 68 3E 0A 00 10 80 80 80 80 00 0B 00 10 80 80 80 80 00 0B")

abbrev pub need_one_another : Row
need_one_another = record {
  link = link_by Plain (read_with (needing 0x10 ∷ linked_member 2 (codes "a") (codes "b") ∷ linked_member 3 (codes "b") (codes "a") ∷ [])
      (record { members = span 8 8 ∷ span 16 8 ∷ []; offered = (codes "a", 0) ∷ (codes "b", 1) ∷ [] }))
      (exporting 2 (codes "f" ∷ [])) (needing_file ∷ cyclic_library ∷ []);
  answer = Ok (header ++ hex (codes "01 04 01 60 00 00 03 04 03 00 00 00") ++ storage
      ++ hex (codes "07 0E 02 06 6D 65 6D 6F 72 79 02 00 01 66 00 00 0A 1C 03 08 00 10 81 80 80 80 00 0B 08 00 10 82 80 80 80 00 0B 08 00 10 81 80 80 80 00 0B"));
}

-- a, defined by a body of so many bytes at a place
abbrev pub defining_a : ℕ → ℕ → ℕ → Object
defining_a input start len = record (empty_object input) { types = plain_type ∷ []; functions = body_at 0 (span start len) [] ∷ []; symbols = function_symbol 0 (codes "a") 0 ∷ [] }

abbrev pub one_member : List ℕ → List ℕ
one_member body = hex (codes "21 3C 61 72 63 68 3E 0A") ++ body

abbrev pub offering_a : Contents
offering_a = record { members = span 8 3 ∷ []; offered = (codes "a", 0) ∷ [] }

abbrev pub first_library : Row
first_library = record {
  link = link_by Plain (read_with (needing 0x10 ∷ defining_a 2 0 3 ∷ defining_a 3 0 3 ∷ []) offering_a) (exporting 3 (codes "f" ∷ []))
      (needing_file ∷ one_member (hex (codes "00 01 0B")) ∷ one_member (hex (codes "00 00 0B")) ∷ []);
  answer = Ok (header ++ hex (codes "01 04 01 60 00 00 03 03 02 00 00") ++ storage
      ++ hex (codes "07 0E 02 06 6D 65 6D 6F 72 79 02 00 01 66 00 00 0A 0E 02 08 00 10 81 80 80 80 00 0B 03 00 01 0B"));
}

-- A library may stand before what needs its member; the member then has the lesser number.
abbrev pub library_first : Row
library_first = record {
  link = link_by Plain (read_with (defining_a 1 0 3 ∷ record (needing 0x10) { input = 2 } ∷ []) offering_a) (exporting 2 (codes "f" ∷ []))
      (one_member (hex (codes "00 01 0B")) ∷ needing_file ∷ []);
  answer = Ok (header ++ hex (codes "01 04 01 60 00 00 03 03 02 00 00") ++ storage
      ++ hex (codes "07 0E 02 06 6D 65 6D 6F 72 79 02 00 01 66 00 01 0A 0E 02 03 00 01 0B 08 00 10 80 80 80 80 00 0B"));
}

-- ---- shared outputs

-- env.memory of so many pages, env.__indirect_function_table without slots, and the three globals: five imports, 112 bytes
abbrev pub shared_imports : ℕ → List ℕ
shared_imports pages =
    3 ∷ codes "env" ++ 6 ∷ codes "memory" ++ 2 ∷ 0 ∷ pages ∷ []
    ++ 3 ∷ codes "env" ++ 25 ∷ codes "__indirect_function_table" ++ hex (codes "01 70 00 00")
    ++ 3 ∷ codes "env" ++ 15 ∷ codes "__stack_pointer" ++ hex (codes "03 7F 01")
    ++ 3 ∷ codes "env" ++ 13 ∷ codes "__memory_base" ++ hex (codes "03 7F 00")
    ++ 3 ∷ codes "env" ++ 12 ∷ codes "__table_base" ++ hex (codes "03 7F 00")

-- An object without anything: the sizes are 0, and nothing is exported.
abbrev pub shared_nothing : Row
shared_nothing = record {
  link = link_by Shared (read_as (empty_object 1 ∷ [])) (plan_of 1) ([] ∷ []);
  answer = Ok (header ++ hex (codes "00 0F 08 64 79 6C 69 6E 6B 2E 30 01 04 00 00 00 00 02 71 05") ++ shared_imports 0);
}

-- Eight bytes of data: a pointer to the datum at offset 4, and one to a foreign x. Both are stored when the module is loaded.
abbrev pub shared_pointers : Row
shared_pointers = record {
  link = link_by Shared (read_as (record (empty_object 1) {
    segments = record (segment_at (span 0 8) 2 (word_at 0 5 0 ∷ word_at 4 5 1 ∷ [])) { info = record { name = []; align = 2; flags = 4 } } ∷ [];
    symbols = datum_symbol 2 (codes "d") 0 4 4 ∷ datum_symbol 0x10 (codes "x") 0 0 0 ∷ [];
  } ∷ [])) (plan_of 1) (hex (codes "00 00 00 00 00 00 00 00") ∷ []);
  answer = Ok (header ++ hex (codes "00 0F 08 64 79 6C 69 6E 6B 2E 30 01 04 08 02 00 00 01 04 01 60 00 00 02 7E 06") ++ shared_imports 1
      ++ 7 ∷ codes "GOT.mem" ++ hex (codes "01 78 03 7F 01 03 02 01 00 07 1C 01 18") ++ codes "__wasm_apply_data_relocs" ++ hex (codes "00 00 0A 3E 01 3C 00")
      ++ hex (codes "23 81 80 80 80 00 41 80 80 80 80 00 6A 23 81 80 80 80 00 41 84 80 80 80 00 6A 36 02 00")
      ++ hex (codes "23 81 80 80 80 00 41 84 80 80 80 00 6A 23 83 80 80 80 00 41 80 80 80 80 00 6A 36 02 00")
      ++ hex (codes "0B 0B 0E 01 00 23 01 0B 08 00 00 00 00 00 00 00 00"));
}

-- The generated objects hold absolute addresses.
abbrev pub shared_address : Row
shared_address = record { link = link_by Shared (read_as (first_generated ∷ last_generated ∷ [])) (exporting 2 (codes "f0" ∷ [])) generated_files; answer = Err (NotPic 1 2 4) }

abbrev pub rows : List Row
rows = two_generated ∷ a_program ∷ need_one_another ∷ first_library ∷ library_first ∷ shared_nothing ∷ shared_pointers ∷ shared_address ∷ []
