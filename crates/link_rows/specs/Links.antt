-- Links that tell single words of the rules: the heap's end, an exported table, dropped segments, signed windows, a cell as work, and
-- which names are counted.
use Rattle.std.specs.Prelude.{ℕ, true, List, [], ◌∷◌, ◌++◌, Some, Ok, Err, codes, length, bytes_eq}
use Rattle.object_file.specs.wl_base.Choice.{distinct}
use Rattle.object_file.specs.wl_base.declared.fault.Fault.TheVariants.{Clash, NotPic}
use Rattle.object_file.specs.wasm_types.declared.import.ImportKind.TheVariants as kinds
use Rattle.object_file.specs.wasm_types.declared.value.ValType.TheVariants.{I32}
use Rattle.object_file.specs.linking_section.declared.symbol.Symbol.{Symbol}
use Rattle.object_file.specs.declared.object.Object.{Object}
use Rattle.made_symbols.specs.declared.mode.Mode.TheVariants.{Plain, Shared}
use Rattle.link_rules.specs.Program.{Program, program_of}
use Rattle.link_rules.specs.LinkOf.{link_by, all_names}
use Rattle.link_rules.specs.Examples.{hex, Row, plan_of, exporting, read_as, empty_object, span, function_symbol, datum_symbol, body_at, names, group_of, segment_at, function_import, plain_type}
use Rattle.link_rules.specs.NameRows.{header, storage}
use Rattle.link_rules.specs.DataRows.{giving_address, giving_file}
use Rattle.link_rules.specs.FurtherRows.{kept_segment, global_symbol}

-- ---- memory

-- The memory has 2^32 bytes, so that `__heap_end` is 2^32 - 1, which is written as -1.
abbrev pub highest_heap_end : Row
highest_heap_end = record {
  link = link_by Plain (read_as (empty_object 1 ∷ [])) (record (exporting 1 (codes "__heap_end" ∷ [])) { stack_size = 4294966256 }) ([] ∷ []);
  answer = Ok (header ++ hex (codes "04 05 01 70 01 01 01 05 05 01 00 80 80 04 06 06 01 7F 00 41 7F 0B")
      ++ hex (codes "07 17 02 06 6D 65 6D 6F 72 79 02 00 0A 5F 5F 68 65 61 70 5F 65 6E 64 03 00"));
}

-- ---- exports

-- The table is exported as a table, by the number 0.
abbrev pub exported_table : Row
exported_table = record {
  link = link_by Plain (read_as (empty_object 1 ∷ [])) (exporting 1 (codes "__indirect_function_table" ∷ [])) ([] ∷ []);
  answer = Ok (header ++ storage ++ hex (codes "07 26 02 06 6D 65 6D 6F 72 79 02 00") ++ 25 ∷ codes "__indirect_function_table" ++ hex (codes "01 00"));
}

-- ---- groups

-- Both inputs have the group c, whose member is a segment with RETAIN: that of input 2 isn't kept, and so is no root.
abbrev pub retaining : ℕ → Object
retaining input = record (empty_object input) { segments = kept_segment 0 4 2 ∷ []; groups = group_of (codes "c") [] (0 ∷ []) ∷ [] }

abbrev pub one_retained : Row
one_retained = record {
  link = link_by Plain (read_as (retaining 1 ∷ retaining 2 ∷ [])) (plan_of 2) (hex (codes "01 00 00 00") ∷ hex (codes "02 00 00 00") ∷ []);
  answer = Ok (header ++ storage ++ hex (codes "07 0A 01 06 6D 65 6D 6F 72 79 02 00 0B 0B 01 00 41 80 08 0B 04 01 00 00 00"));
}

-- ---- windows

-- A window of MEMORY_ADDR_REL_SLEB is signed: from 2^31 on it holds a negative number.
abbrev pub high_relative : Row
high_relative = record {
  link = link_by Plain (read_as (record giving_address { functions = body_at 0 (span 4 8) (names 11 2 0 ∷ []) ∷ [] } ∷ []))
      (record (exporting 1 (codes "f" ∷ [])) { global_base = Some 2147483648 }) (giving_file ∷ []);
  answer = Ok (header ++ hex (codes "01 05 01 60 00 01 7F 03 02 01 00 04 05 01 70 01 01 01 05 05 01 00 82 80 02")
      ++ hex (codes "07 0E 02 06 6D 65 6D 6F 72 79 02 00 01 66 00 00 0A 0A 01 08 00 41 80 80 80 80 78 0B 0B 0E 01 00 41 80 80 80 80 78 0B 04 2A 00 00 00"));
}

-- ---- a shared output

-- f reads its own address from a cell, and there are no data: the cell alone is work for `__wasm_apply_data_relocs`, which stores the
-- slot there.
abbrev pub cell_alone : Row
cell_alone = record {
  link = link_by Shared (read_as (record (empty_object 1) {
    types = plain_type ∷ [];
    functions = body_at 0 (span 0 9) (names 7 2 0 ∷ []) ∷ [];
    symbols = function_symbol 0 (codes "f") 0 ∷ [];
  } ∷ [])) (exporting 1 (codes "f" ∷ [])) (hex (codes "00 23 80 80 80 80 00 1A 0B") ∷ []);
  answer = Ok (header ++ hex (codes "00 0F 08 64 79 6C 69 6E 6B 2E 30 01 04 00 00 01 00 01 04 01 60 00 00 02 71 05")
      ++ 3 ∷ codes "env" ++ 6 ∷ codes "memory" ++ hex (codes "02 00 00")
      ++ 3 ∷ codes "env" ++ 25 ∷ codes "__indirect_function_table" ++ hex (codes "01 70 00 01")
      ++ 3 ∷ codes "env" ++ 15 ∷ codes "__stack_pointer" ++ hex (codes "03 7F 01")
      ++ 3 ∷ codes "env" ++ 13 ∷ codes "__memory_base" ++ hex (codes "03 7F 00")
      ++ 3 ∷ codes "env" ++ 12 ∷ codes "__table_base" ++ hex (codes "03 7F 00")
      ++ hex (codes "03 03 02 00 00 06 06 01 7F 01 41 00 0B 07 20 02 18") ++ codes "__wasm_apply_data_relocs" ++ hex (codes "00 00 01 66 00 01")
      ++ hex (codes "09 07 01 00 23 02 0B 01 01")
      ++ hex (codes "0A 21 02 15 00 23 82 80 80 80 00 41 80 80 80 80 00 6A 24 83 80 80 80 00 0B 09 00 23 83 80 80 80 00 1A 0B"));
}

-- ---- code of a shared output that isn't position-independent

-- f, whose window of this type names the symbol 1
abbrev pub windowed : ℕ → Symbol → Object
windowed kind named = record (empty_object 1) {
  types = plain_type ∷ [];
  imports = function_import (codes "env") (codes "x") 0 ∷ [];
  functions = body_at 0 (span 0 8) (names kind 2 1 ∷ []) ∷ [];
  segments = segment_at (span 8 4) 2 [] ∷ [];
  symbols = function_symbol 0 (codes "f") 1 ∷ named ∷ [];
}

abbrev pub fixed : ℕ → Symbol → Row
fixed kind named = record {
  link = link_by Shared (read_as (windowed kind named ∷ [])) (exporting 1 (codes "f" ∷ [])) (hex (codes "00 41 80 80 80 80 00 0B 00 00 00 00") ∷ []);
  answer = Err (NotPic 1 1 kind);
}

-- A slot and an address from 0 of the link's own function and datum; and those relative to a base, of a foreign one.
abbrev pub fixed_rows : List Row
fixed_rows =
    fixed 1 (function_symbol 2 (codes "g") 1) ∷ fixed 3 (datum_symbol 2 (codes "d") 0 0 4)
    ∷ fixed 11 (datum_symbol 0x10 (codes "y") 0 0 0) ∷ fixed 12 (function_symbol 0x10 (codes "x") 0) ∷ []

-- ---- the linker's bases are constant

-- A reference to one of them as a global that can be written clashes with it.
abbrev pub writing : List ℕ → Row
writing name = record {
  link = link_by Plain (read_as (record (empty_object 1) {
    imports = record { «module» = codes "env"; field = name; kind = kinds.GlobalVar (record { kind = I32; var = true }) } ∷ [];
    symbols = global_symbol 0x10 name 0 ∷ [];
  } ∷ [])) (plan_of 1) ([] ∷ []);
  answer = Err (Clash name 0 1);
}

abbrev pub rows : List Row
rows = highest_heap_end ∷ exported_table ∷ one_retained ∷ high_relative ∷ cell_alone ∷ writing (codes "__memory_base") ∷ writing (codes "__table_base") ∷ fixed_rows

-- ---- which names are counted

-- One object with a function f and a group g, and the words `--export f --export-if i -u u`.
abbrev pub naming : Program
naming = program_of Plain (record (exporting 1 (codes "f" ∷ [])) { exports_if = codes "i" ∷ []; wanted = codes "u" ∷ [] }) ([] ∷ []) []
    (record (empty_object 1) {
      types = plain_type ∷ [];
      functions = body_at 0 (span 0 2) [] ∷ [];
      symbols = function_symbol 0 (codes "f") 0 ∷ [];
      groups = group_of (codes "g") (0 ∷ []) [] ∷ [];
    } ∷ [])

-- The linker's twelve, and f, g, u and i, each once.
abbrev pub counted : ℕ
counted = length (distinct bytes_eq (all_names naming))
