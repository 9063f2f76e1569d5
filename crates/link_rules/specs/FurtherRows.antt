-- Worked links: more of memory, cells, imports, loading, roots and shared outputs.
use Rattle.std.specs.Prelude.{ℕ, true, false, List, [], ◌∷◌, ◌++◌, Some, Ok, Err, codes, pos}
use Rattle.name_rules.specs.object_file.declared.object.Object.{Object}
use Rattle.made_symbols.specs.declared.mode.Mode.TheVariants.{Plain, Shared}
use Rattle.link_rules.specs.LinkOf.{link_by}
use Rattle.name_rules.specs.object_file.wl_base.declared.fault.Fault.TheVariants.{Clash, Duplicate, IndexLies, Unresolved}
use Rattle.name_rules.specs.object_file.wasm_types.declared.import.ImportKind.TheVariants as kinds
use Rattle.name_rules.specs.object_file.wasm_types.declared.value.ValType.TheVariants.{I32, I64}
use Rattle.name_rules.specs.object_file.wasm_types.declared.const_expr.ConstExpr.TheVariants as constants
use Rattle.name_rules.specs.object_file.linking_section.declared.symbol.Symbol.{Symbol}
use Rattle.name_rules.specs.object_file.linking_section.declared.symbol.SymbolKind.TheVariants.{GlobalVar}
use Rattle.name_rules.specs.object_file.object_columns.declared.segments.SegmentDef.{SegmentDef}
use Rattle.name_rules.specs.object_file.body_windows.declared.operand.Operand.TheVariants as operands
use Rattle.link_rules.specs.Candidates.{plain_word}
use Rattle.link_rules.specs.Examples.{hex, Row, plan_of, exporting, read_as, read_with, empty_object, span, function_symbol, datum_symbol, body_at, names, word_at, segment_at, function_import, plain_type}
use Rattle.link_rules.specs.NameRows.{defining, giving_1, wanting_file}
use Rattle.link_rules.specs.LoadingRows.{grouping, grouping_file, initializing, constructors, needing, needing_file, member_b}
use Rattle.link_rules.specs.MoreRows.{defining_a, one_member}

abbrev pub global_symbol : ℕ → List ℕ → ℕ → Symbol
global_symbol flags name index = record { kind = GlobalVar; flags = flags; name = Some name; index = index; offset = 0; size = 0 }

-- ---- memory: the stack first, imported, with a greatest size; a segment of zeros that is given first stands last

abbrev pub kept_segment : ℕ → ℕ → ℕ → SegmentDef
kept_segment start len align = record (segment_at (span start len) align []) { info = record { name = []; align = align; flags = 4 } }

abbrev pub memory_first : Row
memory_first = record {
  link = link_by Plain (read_as (record (empty_object 1) { segments = kept_segment 0 3 0 ∷ kept_segment 3 1 0 ∷ kept_segment 4 2 3 ∷ [] } ∷ []))
      (record (exporting 1 (codes "__heap_end" ∷ codes "__stack_pointer" ∷ codes "__stack_low" ∷ codes "__stack_high" ∷ codes "__heap_base" ∷ codes "__data_end" ∷ codes "__global_base" ∷ []))
      { import_memory = true; stack_first = true; global_base = Some 100; stack_size = 64; initial_memory = 131072; max_memory = Some 196608 })
      (hex (codes "00 00 00 07 08 09") ∷ []);
  answer = Ok (hex (codes "00 61 73 6D 01 00 00 00 02 10 01 03 65 6E 76 06 6D 65 6D 6F 72 79 02 01 02 03 04 05 01 70 01 01 01 06 2B 07 7F 01 41 C0")
      ++ hex (codes "00 0B 7F 00 41 F0 00 0B 7F 00 41 ED 00 0B 7F 00 41 E4 00 0B 7F 00 41 00 0B 7F 00 41 C0 00 0B 7F 00 41 80 80 08 0B 07 68")
      ++ hex (codes "07 0F 5F 5F 73 74 61 63 6B 5F 70 6F 69 6E 74 65 72 03 00 0B 5F 5F 68 65 61 70 5F 62 61 73 65 03 01 0A 5F 5F 64 61 74 61")
      ++ hex (codes "5F 65 6E 64 03 02 0D 5F 5F 67 6C 6F 62 61 6C 5F 62 61 73 65 03 03 0B 5F 5F 73 74 61 63 6B 5F 6C 6F 77 03 04 0C 5F 5F 73")
      ++ hex (codes "74 61 63 6B 5F 68 69 67 68 03 05 0A 5F 5F 68 65 61 70 5F 65 6E 64 03 06 0B 0D 01 00 41 E4 00 0B 06 07 00 00 00 08 09"));
}

-- ---- cells: of null data, of a function by two symbols, of a null function, of a datum; behind the linker's globals and the object's

abbrev pub cells : Row
cells = record {
  link = link_by Plain (read_as (record (empty_object 1) {
    types = plain_type ∷ [];
    imports = function_import (codes "env") (codes "w") 0 ∷ record { «module» = codes "env"; field = codes "__stack_pointer"; kind = kinds.GlobalVar (record { kind = I32; var = true }) } ∷ [];
    functions = body_at 0 (span 0 58) (names 7 2 4 ∷ names 7 9 1 ∷ names 7 16 3 ∷ names 7 23 2 ∷ names 7 30 5 ∷ names 7 37 1 ∷ names 7 44 6 ∷ names 7 51 7 ∷ []) ∷ body_at 0 (span 58 2) [] ∷ [];
    globals = record { kind = record { kind = I64; var = true }; value = constants.I64 (pos 5); span = span 0 0 } ∷ [];
    segments = segment_at (span 60 4) 2 [] ∷ [];
    symbols = function_symbol 0 (codes "f") 1 ∷ function_symbol 0 (codes "h") 2 ∷ function_symbol 2 (codes "h2") 2 ∷ function_symbol 0x11 (codes "w") 0
        ∷ datum_symbol 0x11 (codes "v") 0 0 0 ∷ datum_symbol 0 (codes "d") 0 0 4 ∷ global_symbol 2 (codes "g") 1 ∷ global_symbol 0x10 (codes "__stack_pointer") 0 ∷ [];
  } ∷ [])) (exporting 1 (codes "d" ∷ codes "f" ∷ []))
      ((hex (codes "00 23 80 80 80 80 00 1A 23 80 80 80 80 00 1A 23 80 80 80 80 00 1A 23 80 80 80 80 00 1A")
      ++ hex (codes "23 80 80 80 80 00 1A 23 80 80 80 80 00 1A 23 80 80 80 80 00 1A 23 80 80 80 80 00 1A 0B 00 0B 2A 00 00 00")) ∷ []);
  answer = Ok (hex (codes "00 61 73 6D 01 00 00 00 01 04 01 60 00 00 03 03 02 00 00 04 05 01 70 01 02 02 05 03 01 00 02 06 2D 08 7F 01 41 90 88 04")
      ++ hex (codes "0B 7E 01 42 05 0B 7F 00 41 00 0B 7F 00 41 01 0B 7F 00 41 00 0B 7F 00 41 01 0B 7F 00 41 80 08 0B 7F 00 41 80 08 0B 07 12")
      ++ hex (codes "03 06 6D 65 6D 6F 72 79 02 00 01 66 00 00 01 64 03 07 09 07 01 00 41 01 0B 01 01 0A 3F 02 3A 00 23 82 80 80 80 00 1A 23")
      ++ hex (codes "83 80 80 80 00 1A 23 84 80 80 80 00 1A 23 85 80 80 80 00 1A 23 86 80 80 80 00 1A 23 83 80 80 80 00 1A 23 81 80 80 80 00")
      ++ hex (codes "1A 23 80 80 80 80 00 1A 0B 02 00 0B 0B 0B 01 00 41 80 08 0B 04 2A 00 00 00"));
}

-- ---- imports

-- f calls p and then q2; a dead q1 before both names what q2 names, which so comes first.
abbrev pub least_entry : Row
least_entry = record {
  link = link_by Plain (read_as (record (empty_object 1) {
    types = plain_type ∷ [];
    imports = function_import (codes "m") (codes "a") 0 ∷ function_import (codes "m") (codes "b") 0 ∷ function_import (codes "m") (codes "a") 0 ∷ [];
    functions = body_at 0 (span 0 14) (names 0 2 2 ∷ names 0 8 3 ∷ []) ∷ [];
    symbols = function_symbol 0 (codes "f") 3 ∷ function_symbol 0x50 (codes "q1") 0 ∷ function_symbol 0x50 (codes "p") 1 ∷ function_symbol 0x50 (codes "q2") 2 ∷ [];
  } ∷ [])) (exporting 1 (codes "f" ∷ [])) (hex (codes "00 10 80 80 80 80 00 10 80 80 80 80 00 0B") ∷ []);
  answer = Ok (hex (codes "00 61 73 6D 01 00 00 00 01 04 01 60 00 00 02 0D 02 01 6D 01 61 00 00 01 6D 01 62 00 00 03 02 01 00 04 05 01 70 01 01 01")
      ++ hex (codes "05 03 01 00 02 07 0E 02 06 6D 65 6D 6F 72 79 02 00 01 66 00 02 0A 10 01 0E 00 10 81 80 80 80 00 10 80 80 80 80 00 0B"));
}

-- an exported function that calls p, which is undefined with these flags and stands on this import
abbrev pub calling_p : ℕ → List ℕ → ℕ → List ℕ → List ℕ → Object
calling_p input caller flags from field = record (empty_object input) {
  types = plain_type ∷ [];
  imports = function_import from field 0 ∷ [];
  functions = body_at 0 (span 0 8) (names 0 2 1 ∷ []) ∷ [];
  symbols = function_symbol 0x20 caller 1 ∷ function_symbol flags (codes "p") 0 ∷ [];
}

-- The least p names no import itself, so the two that name different ones don't clash: the first of these counts.
abbrev pub least_explicit : Row
least_explicit = record {
  link = link_by Plain (read_as (calling_p 1 (codes "a") 0x10 (codes "env") (codes "p") ∷ calling_p 2 (codes "b") 0x50 (codes "m") (codes "x") ∷ calling_p 3 (codes "c") 0x50 (codes "n") (codes "y") ∷ []))
      (plan_of 3) (wanting_file ∷ wanting_file ∷ wanting_file ∷ []);
  answer = Ok (hex (codes "00 61 73 6D 01 00 00 00 01 04 01 60 00 00 02 07 01 01 6D 01 78 00 00 03 04 03 00 00 00 04 05 01 70 01 01 01 05 03 01 00")
      ++ hex (codes "02 07 16 04 06 6D 65 6D 6F 72 79 02 00 01 61 00 01 01 62 00 02 01 63 00 03 0A 1C 03 08 00 10 80 80 80 80 00 0B 08 00 10")
      ++ hex (codes "80 80 80 80 00 0B 08 00 10 80 80 80 80 00 0B"));
}

abbrev pub explicit_clash : Row
explicit_clash = record {
  link = link_by Plain (read_as (calling_p 1 (codes "b") 0x50 (codes "m") (codes "x") ∷ calling_p 2 (codes "c") 0x50 (codes "n") (codes "y") ∷ []))
      (plan_of 2) (wanting_file ∷ wanting_file ∷ []);
  answer = Err (Clash (codes "p") 1 2);
}

-- w is named by a dropped member alone, which stands on no import.
abbrev pub no_import_left : Row
no_import_left = record {
  link = link_by Plain (read_as (initializing 1
      ∷ record (grouping 2 (codes "z")) { symbols = function_symbol 0x20 (codes "z") 1 ∷ function_symbol 0 (codes "w") 0 ∷ datum_symbol 1 (codes "d") 0 0 4 ∷ [] } ∷ []))
      (record (plan_of 2) { allow_undefined = true }) (hex (codes "00 0B") ∷ grouping_file 2 ∷ []);
  answer = Err (Unresolved (codes "w") 2);
}

-- ---- exports and roots

-- Two exported symbols of a function that its object exports as e.
abbrev pub alias_twice : Row
alias_twice = record {
  link = link_by Plain (read_as (record (defining 1 0) {
    functions = record (body_at 0 (span 0 4) []) { export_name = Some (codes "e") } ∷ [];
    symbols = function_symbol 0x20 (codes "f") 0 ∷ function_symbol 0x20 (codes "g") 0 ∷ [];
  } ∷ [])) (plan_of 1) (giving_1 ∷ []);
  answer = Err (Duplicate (codes "e") 1 1);
}

-- The weak f of input 1 has EXPORTED and NO_STRIP, and loses to a HIDDEN one. Of input 2, n is HIDDEN and has NO_STRIP, l is LOCAL and
-- has it too. With --export-dynamic s is exported.
abbrev pub flags_of_winners : Row
flags_of_winners = record {
  link = link_by Plain (read_as (
      record (empty_object 1) { types = plain_type ∷ []; functions = body_at 0 (span 0 2) [] ∷ []; symbols = function_symbol 0xA1 (codes "f") 0 ∷ [] }
      ∷ record (empty_object 2) {
        types = plain_type ∷ [];
        functions = body_at 0 (span 0 2) [] ∷ body_at 0 (span 2 3) [] ∷ body_at 0 (span 5 4) [] ∷ body_at 0 (span 0 2) [] ∷ [];
        symbols = function_symbol 4 (codes "f") 0 ∷ function_symbol 0 (codes "s") 1 ∷ function_symbol 0x84 (codes "n") 2 ∷ function_symbol 0x82 (codes "l") 3 ∷ [];
      } ∷ [])) (record (plan_of 2) { export_dynamic = true }) (hex (codes "00 0B") ∷ hex (codes "00 0B 00 01 0B 00 01 01 0B") ∷ []);
  answer = Ok (hex (codes "00 61 73 6D 01 00 00 00 01 04 01 60 00 00 03 03 02 00 00 04 05 01 70 01 01 01 05 03 01 00 02 07 0E 02 06 6D 65 6D 6F 72")
      ++ hex (codes "79 02 00 01 73 00 00 0A 0A 02 03 00 01 0B 04 00 01 01 0B"));
}

-- An object's strong definition of a linker-made global is a duplicate.
abbrev pub linker_made_twice : Row
linker_made_twice = record {
  link = link_by Plain (read_as (record (empty_object 1) {
    globals = record { kind = record { kind = I32; var = true }; value = constants.I32 (pos 0); span = span 0 0 } ∷ [];
    symbols = global_symbol 0 (codes "__stack_pointer") 0 ∷ [];
  } ∷ [])) (plan_of 1) ([] ∷ []);
  answer = Err (Duplicate (codes "__stack_pointer") 0 1);
}

-- ---- init functions

-- An init entry of a WEAK function without a definition is a call of its stub.
abbrev pub null_init : Row
null_init = record {
  link = link_by Plain (read_as (record (empty_object 1) {
    types = plain_type ∷ [];
    imports = function_import (codes "env") (codes "w") 0 ∷ [];
    symbols = function_symbol 0x11 (codes "w") 0 ∷ [];
    inits = record { priority = 1; symbol = 0 } ∷ [];
  } ∷ [])) (exporting 1 constructors) ([] ∷ []);
  answer = Ok (hex (codes "00 61 73 6D 01 00 00 00 01 04 01 60 00 00 03 03 02 00 00 04 05 01 70 01 01 01 05 03 01 00 02 07 1E 02 06 6D 65 6D 6F 72")
      ++ hex (codes "79 02 00 11 5F 5F 77 61 73 6D 5F 63 61 6C 6C 5F 63 74 6F 72 73 00 00 0A 0E 02 08 00 10 81 80 80 80 00 0B 03 00 00 0B"));
}

-- ---- loading

-- Of two lazy objects that define a the first is loaded.
abbrev pub first_lazy : Row
first_lazy = record {
  link = link_by Plain (read_as (needing 0x10 ∷ defining_a 2 0 3 ∷ defining_a 3 0 3 ∷ []))
      (record (exporting 3 (codes "f" ∷ [])) { inputs = plain_word ∷ record plain_word { lazy = true } ∷ record plain_word { lazy = true } ∷ [] })
      (needing_file ∷ hex (codes "00 01 0B") ∷ hex (codes "00 00 0B") ∷ []);
  answer = Ok (hex (codes "00 61 73 6D 01 00 00 00 01 04 01 60 00 00 03 03 02 00 00 04 05 01 70 01 01 01 05 03 01 00 02 07 0E 02 06 6D 65 6D 6F 72")
      ++ hex (codes "79 02 00 01 66 00 00 0A 0E 02 08 00 10 81 80 80 80 00 0B 03 00 01 0B"));
}

-- A whole library gives a for a member that doesn't define it. The member is loaded at once, so that no index lies, and the lazy object
-- behind it, which defines a, isn't tried.
abbrev pub loaded_offer : Row
loaded_offer = record {
  link = link_by Plain (read_with (needing 0x10 ∷ record member_b { input = 2 } ∷ defining_a 3 0 3 ∷ []) (record { members = span 8 2 ∷ []; offered = (codes "a", 0) ∷ [] }))
      (record (exporting 3 (codes "f" ∷ [])) { inputs = plain_word ∷ record plain_word { whole = true } ∷ record plain_word { lazy = true } ∷ [] })
      (needing_file ∷ one_member (hex (codes "00 0B")) ∷ hex (codes "00 01 0B") ∷ []);
  answer = Err (Unresolved (codes "a") 1);
}

-- Of two names for which a member is added, and which it doesn't define, the least by its bytes is told.
abbrev pub least_lie : Row
least_lie = record {
  link = link_by Plain (read_with (record (needing 0x10) {
    imports = function_import (codes "env") (codes "b") 0 ∷ function_import (codes "env") (codes "ab") 0 ∷ [];
    symbols = function_symbol 0 (codes "f") 2 ∷ function_symbol 0x10 (codes "b") 0 ∷ function_symbol 0x10 (codes "ab") 1 ∷ [];
  } ∷ defining_a 2 0 3 ∷ []) (record { members = span 8 3 ∷ []; offered = (codes "b", 0) ∷ (codes "ab", 0) ∷ [] }))
      (exporting 2 (codes "f" ∷ [])) (needing_file ∷ one_member (hex (codes "00 01 0B")) ∷ []);
  answer = Err (IndexLies 2 (codes "ab"));
}

-- ---- unresolved

-- f calls c and then b: b is the lesser symbol.
abbrev pub least_unresolved : Row
least_unresolved = record {
  link = link_by Plain (read_as (record (empty_object 1) {
    types = plain_type ∷ [];
    imports = function_import (codes "env") (codes "b") 0 ∷ function_import (codes "env") (codes "c") 0 ∷ [];
    functions = body_at 0 (span 0 14) (names 0 2 2 ∷ names 0 8 1 ∷ []) ∷ [];
    symbols = function_symbol 0 (codes "f") 2 ∷ function_symbol 0x10 (codes "b") 0 ∷ function_symbol 0x10 (codes "c") 1 ∷ [];
  } ∷ [])) (exporting 1 (codes "f" ∷ [])) (hex (codes "00 10 80 80 80 80 00 10 80 80 80 80 00 0B") ∷ []);
  answer = Err (Unresolved (codes "b") 1);
}

-- ---- shared outputs

-- f calls a WEAK foreign x, and reads its address and its own from cells; it takes an address and a slot relative to the bases. A word of
-- data holds a pointer to d, another the slot of x. i is an init function.
abbrev pub shared_cells : Row
shared_cells = record {
  link = link_by Shared (read_as (record (empty_object 1) {
    types = plain_type ∷ [];
    imports = function_import (codes "env") (codes "x") 0 ∷ [];
    functions = body_at 0 (span 0 36) (names 0 2 1 ∷ operands.Symbol 11 8 3 (pos 4) ∷ names 12 15 2 ∷ names 7 22 0 ∷ names 7 29 1 ∷ []) ∷ body_at 0 (span 36 2) [] ∷ [];
    segments = segment_at (span 38 8) 3 (word_at 0 5 3 ∷ word_at 4 2 1 ∷ []) ∷ [];
    symbols = function_symbol 0 (codes "f") 1 ∷ function_symbol 0x11 (codes "x") 0 ∷ function_symbol 2 (codes "i") 2 ∷ datum_symbol 2 (codes "d") 0 4 4 ∷ [];
    inits = record { priority = 1; symbol = 2 } ∷ [];
  } ∷ [])) (exporting 1 (codes "f" ∷ []))
      ((hex (codes "00 10 80 80 80 80 00 41 80 80 80 80 00 1A 41 80 80 80 80 00 1A 23 80 80 80 80 00 1A 23 80 80 80 80 00 1A 0B")
      ++ hex (codes "00 0B FF FF FF FF FF FF FF FF")) ∷ []);
  answer = Ok (hex (codes "00 61 73 6D 01 00 00 00 00 25 08 64 79 6C 69 6E 6B 2E 30 01 04 08 03 02 00 04 14 02 03 65 6E 76 01 78 01 08 47 4F 54 2E")
      ++ hex (codes "66 75 6E 63 01 78 01 01 04 01 60 00 00 02 87 01 07 03 65 6E 76 06 6D 65 6D 6F 72 79 02 00 01 03 65 6E 76 19 5F 5F 69 6E")
      ++ hex (codes "64 69 72 65 63 74 5F 66 75 6E 63 74 69 6F 6E 5F 74 61 62 6C 65 01 70 00 02 03 65 6E 76 01 78 00 00 03 65 6E 76 0F 5F 5F")
      ++ hex (codes "73 74 61 63 6B 5F 70 6F 69 6E 74 65 72 03 7F 01 03 65 6E 76 0D 5F 5F 6D 65 6D 6F 72 79 5F 62 61 73 65 03 7F 00 03 65 6E")
      ++ hex (codes "76 0C 5F 5F 74 61 62 6C 65 5F 62 61 73 65 03 7F 00 08 47 4F 54 2E 66 75 6E 63 01 78 03 7F 01 03 05 04 00 00 00 00 06 06")
      ++ hex (codes "01 7F 01 41 00 0B 07 34 03 11 5F 5F 77 61 73 6D 5F 63 61 6C 6C 5F 63 74 6F 72 73 00 01 18 5F 5F 77 61 73 6D 5F 61 70 70")
      ++ hex (codes "6C 79 5F 64 61 74 61 5F 72 65 6C 6F 63 73 00 02 01 66 00 03 09 08 01 00 23 02 0B 02 03 04 0A 7B 04 08 00 10 84 80 80 80")
      ++ hex (codes "00 0B 48 00 23 81 80 80 80 00 41 80 80 80 80 00 6A 23 81 80 80 80 00 41 84 80 80 80 00 6A 36 02 00 23 81 80 80 80 00 41")
      ++ hex (codes "84 80 80 80 00 6A 23 83 80 80 80 00 36 02 00 23 82 80 80 80 00 41 80 80 80 80 00 6A 24 84 80 80 80 00 0B 24 00 10 80 80")
      ++ hex (codes "80 80 00 41 88 80 80 80 00 1A 41 81 80 80 80 00 1A 23 84 80 80 80 00 1A 23 83 80 80 80 00 1A 0B 02 00 0B 0B 0E 01 00 23")
      ++ hex (codes "01 0B 08 00 00 00 00 00 00 00 00"));
}

-- A WEAK global is told to the loader by its own import alone, and not by a cell that another symbol imports.
abbrev pub weak_global : Row
weak_global = record {
  link = link_by Shared (read_as (record (empty_object 1) {
    types = plain_type ∷ [];
    imports = record { «module» = codes "env"; field = codes "x"; kind = kinds.GlobalVar (record { kind = I32; var = false }) } ∷ record { «module» = codes "GOT.mem"; field = codes "x"; kind = kinds.GlobalVar (record { kind = I32; var = true }) } ∷ [];
    functions = body_at 0 (span 0 16) (names 7 2 1 ∷ names 7 9 2 ∷ []) ∷ [];
    symbols = function_symbol 0 (codes "f") 0 ∷ global_symbol 0x11 (codes "x") 0 ∷ global_symbol 0x50 (codes "y") 1 ∷ [];
  } ∷ [])) (exporting 1 (codes "f" ∷ []))
      (hex (codes "00 23 80 80 80 80 00 1A 23 80 80 80 80 00 1A 0B") ∷ []);
  answer = Ok (hex (codes "00 61 73 6D 01 00 00 00 00 19 08 64 79 6C 69 6E 6B 2E 30 01 04 00 00 00 00 04 08 01 03 65 6E 76 01 78 01 01 04 01 60 00")
      ++ hex (codes "00 02 87 01 07 03 65 6E 76 06 6D 65 6D 6F 72 79 02 00 00 03 65 6E 76 19 5F 5F 69 6E 64 69 72 65 63 74 5F 66 75 6E 63 74")
      ++ hex (codes "69 6F 6E 5F 74 61 62 6C 65 01 70 00 00 03 65 6E 76 0F 5F 5F 73 74 61 63 6B 5F 70 6F 69 6E 74 65 72 03 7F 01 03 65 6E 76")
      ++ hex (codes "0D 5F 5F 6D 65 6D 6F 72 79 5F 62 61 73 65 03 7F 00 03 65 6E 76 0C 5F 5F 74 61 62 6C 65 5F 62 61 73 65 03 7F 00 03 65 6E")
      ++ hex (codes "76 01 78 03 7F 00 07 47 4F 54 2E 6D 65 6D 01 78 03 7F 01 03 02 01 00 07 05 01 01 66 00 00 0A 12 01 10 00 23 83 80 80 80")
      ++ hex (codes "00 1A 23 84 80 80 80 00 1A 0B"));
}

abbrev pub rows : List Row
rows = memory_first ∷ cells ∷ least_entry ∷ least_explicit ∷ no_import_left ∷ alias_twice ∷ flags_of_winners ∷ null_init ∷ loaded_offer ∷ shared_cells
    ∷ explicit_clash ∷ linker_made_twice ∷ first_lazy ∷ least_lie ∷ least_unresolved ∷ weak_global ∷ []
