-- Worked links: groups, init functions, libraries.
use Rattle.std.specs.Prelude.{ℕ, Bool, Result, true, false, List, [], ◌∷◌, ◌++◌, Ok, Err, codes}
use Rattle.name_rules.specs.object_file.declared.object.Object.{Object}
use Rattle.made_symbols.specs.declared.mode.Mode.TheVariants.{Plain}
use Rattle.link_rules.specs.LinkOf.{link_by}
use Rattle.name_rules.specs.object_file.wl_base.declared.fault.Fault.{Fault}
use Rattle.name_rules.specs.object_file.wl_base.declared.fault.Fault.TheVariants.{Unresolved, IndexLies, Uncalled}
use Rattle.lib_index.specs.Library.{Contents}
use Rattle.link_rules.specs.Examples.{hex, Row, plan_of, exporting, read_as, read_with, empty_object, span, function_symbol, datum_symbol, body_at, names, group_of, segment_at, function_import, plain_type}
use Rattle.link_rules.specs.NameRows.{header, storage}

-- ---- groups

-- the group c of a weak function w and a weak datum d, and a function of its own, which calls w and takes the address of d
abbrev pub grouping : ℕ → List ℕ → Object
grouping input own = record (empty_object input) {
  types = plain_type ∷ [];
  functions = body_at 0 (span 0 2) [] ∷ body_at 0 (span 2 15) (names 0 2 1 ∷ names 4 8 2 ∷ []) ∷ [];
  segments = segment_at (span 17 4) 2 [] ∷ [];
  symbols = function_symbol 0x20 own 1 ∷ function_symbol 1 (codes "w") 0 ∷ datum_symbol 1 (codes "d") 0 0 4 ∷ [];
  groups = group_of (codes "c") (0 ∷ []) (0 ∷ []) ∷ [];
}

abbrev pub grouping_file : ℕ → List ℕ
grouping_file datum = hex (codes "00 0B 00 10 80 80 80 80 00 41 80 80 80 80 00 1A 0B") ++ datum ∷ 0 ∷ 0 ∷ 0 ∷ []

-- Three inputs have the group: one copy of each, from input 1, and all three refer to it.
abbrev pub one_copy_bytes : List ℕ
one_copy_bytes = header ++ hex (codes "01 04 01 60 00 00 03 05 04 00 00 00 00") ++ storage
    ++ hex (codes "07 16 04 06 6D 65 6D 6F 72 79 02 00 01 78 00 01 01 79 00 02 01 7A 00 03 0A 34 04 02 00 0B")
    ++ hex (codes "0F 00 10 80 80 80 80 00 41 80 88 80 80 00 1A 0B 0F 00 10 80 80 80 80 00 41 80 88 80 80 00 1A 0B 0F 00 10 80 80 80 80 00 41 80 88 80 80 00 1A 0B")
    ++ hex (codes "0B 0B 01 00 41 80 08 0B 04 01 00 00 00")

abbrev pub three_inputs : Bool → Result (List ℕ) Fault
three_inputs gc = link_by Plain (read_as (grouping 1 (codes "x") ∷ grouping 2 (codes "y") ∷ grouping 3 (codes "z") ∷ [])) (record (plan_of 3) { gc = gc }) (grouping_file 1 ∷ grouping_file 2 ∷ grouping_file 3 ∷ [])

abbrev pub one_copy : Row
one_copy = record { link = three_inputs true; answer = Ok one_copy_bytes }

-- The other copies aren't kept, and so no roots with `--no-gc-sections` either.
abbrev pub no_copy_kept : Row
no_copy_kept = record { link = three_inputs false; answer = Ok one_copy_bytes }

-- Input 3 calls the function of the group, which input 2 wins, by a LOCAL symbol: that means nothing.
abbrev pub local_member : Row
local_member = record {
  link = link_by Plain (read_as (empty_object 1 ∷ grouping 2 (codes "y")
      ∷ record (grouping 3 (codes "z")) { symbols = function_symbol 0x20 (codes "z") 1 ∷ function_symbol 2 (codes "w") 0 ∷ datum_symbol 1 (codes "d") 0 0 4 ∷ [] } ∷ []))
      (plan_of 3) ([] ∷ grouping_file 2 ∷ grouping_file 3 ∷ []);
  answer = Err (Unresolved (codes "w") 3);
}

-- ---- init functions

abbrev pub constructors : List (List ℕ)
constructors = codes "__wasm_call_ctors" ∷ []

abbrev pub exported_constructors : List ℕ
exported_constructors = hex (codes "07 1E 02 06 6D 65 6D 6F 72 79 02 00 11 5F 5F 77 61 73 6D 5F 63 61 6C 6C 5F 63 74 6F 72 73 00 00")

-- Input 1 lists p at priority 200 and q at 100, input 2 lists r at 100: q, r and p are called.
abbrev pub by_priorities : Row
by_priorities = record {
  link = link_by Plain (read_as (
      record (empty_object 1) {
        types = plain_type ∷ [];
        functions = body_at 0 (span 0 2) [] ∷ body_at 0 (span 0 2) [] ∷ [];
        symbols = function_symbol 0 (codes "p") 0 ∷ function_symbol 0 (codes "q") 1 ∷ [];
        inits = record { priority = 200; symbol = 0 } ∷ record { priority = 100; symbol = 1 } ∷ [];
      } ∷ record (empty_object 2) {
        types = plain_type ∷ [];
        functions = body_at 0 (span 0 2) [] ∷ [];
        symbols = function_symbol 0 (codes "r") 0 ∷ [];
        inits = record { priority = 100; symbol = 0 } ∷ [];
      } ∷ [])) (exporting 2 constructors) (hex (codes "00 0B") ∷ hex (codes "00 0B") ∷ []);
  answer = Ok (header ++ hex (codes "01 04 01 60 00 00 03 05 04 00 00 00 00") ++ storage ++ exported_constructors
      ++ hex (codes "0A 1F 04 14 00 10 82 80 80 80 00 10 83 80 80 80 00 10 81 80 80 80 00 0B 02 00 0B 02 00 0B 02 00 0B"));
}

-- Without init functions it calls nothing.
abbrev pub no_inits : Row
no_inits = record {
  link = link_by Plain (read_as (empty_object 1 ∷ [])) (exporting 1 constructors) ([] ∷ []);
  answer = Ok (header ++ hex (codes "01 04 01 60 00 00 03 02 01 00") ++ storage ++ exported_constructors ++ hex (codes "0A 04 01 02 00 0B"));
}

-- Inputs 1 and 2 have the same group, whose member is a LOCAL function that an init entry of the input names: the entry of input 2 is
-- skipped.
abbrev pub initializing : ℕ → Object
initializing input = record (empty_object input) {
  types = plain_type ∷ [];
  functions = body_at 0 (span 0 2) [] ∷ [];
  symbols = function_symbol 2 (codes "i") 0 ∷ [];
  inits = record { priority = 100; symbol = 0 } ∷ [];
  groups = group_of (codes "c") (0 ∷ []) [] ∷ [];
}

abbrev pub skipped_init : Row
skipped_init = record {
  link = link_by Plain (read_as (initializing 1 ∷ initializing 2 ∷ [])) (exporting 2 constructors) (hex (codes "00 0B") ∷ hex (codes "00 0B") ∷ []);
  answer = Ok (header ++ hex (codes "01 04 01 60 00 00 03 03 02 00 00") ++ storage ++ exported_constructors ++ hex (codes "0A 0D 02 08 00 10 81 80 80 80 00 0B 02 00 0B"));
}

-- An object has an init function, and a function f beside it; nothing calls the linker's function. In a link that is like lld's this is
-- refused where f is live, but not where f is dead, nor where the words export the linker's function; and elsewhere it is let through.
abbrev pub beside_init : Object
beside_init = record (empty_object 1) {
  types = plain_type ∷ [];
  functions = body_at 0 (span 0 2) [] ∷ body_at 0 (span 0 2) [] ∷ [];
  symbols = function_symbol 2 (codes "i") 0 ∷ function_symbol 0 (codes "f") 1 ∷ [];
  inits = record { priority = 100; symbol = 0 } ∷ [];
}

abbrev pub with_init : Bool → List (List ℕ) → Result (List ℕ) Fault
with_init like_lld exports = link_by Plain (read_as (beside_init ∷ [])) (record (exporting 1 exports) { like_lld = like_lld }) (hex (codes "00 0B") ∷ [])

abbrev pub only_f : List ℕ
only_f = header ++ hex (codes "01 04 01 60 00 00 03 02 01 00") ++ storage ++ hex (codes "07 0E 02 06 6D 65 6D 6F 72 79 02 00 01 66 00 00 0A 04 01 02 00 0B")

abbrev pub init_lost : Row
init_lost = record { link = with_init true (codes "f" ∷ []); answer = Err Uncalled }

abbrev pub init_left_out : Row
init_left_out = record { link = with_init false (codes "f" ∷ []); answer = Ok only_f }

abbrev pub init_dead : Row
init_dead = record { link = with_init true []; answer = Ok (header ++ storage ++ hex (codes "07 0A 01 06 6D 65 6D 6F 72 79 02 00")) }

abbrev pub init_exported : Row
init_exported = record {
  link = with_init true constructors;
  answer = Ok (header ++ hex (codes "01 04 01 60 00 00 03 03 02 00 00") ++ storage ++ exported_constructors ++ hex (codes "0A 0D 02 08 00 10 81 80 80 80 00 0B 02 00 0B"));
}

-- ---- live chunks

-- f calls g, which calls h; d calls h, and nothing refers to d
abbrev pub chain : Object
chain = record (empty_object 1) {
  types = plain_type ∷ [];
  functions = body_at 0 (span 0 8) (names 0 2 1 ∷ []) ∷ body_at 0 (span 0 8) (names 0 2 2 ∷ []) ∷ body_at 0 (span 8 2) [] ∷ body_at 0 (span 0 8) (names 0 2 2 ∷ []) ∷ [];
  symbols = function_symbol 0 (codes "f") 0 ∷ function_symbol 0 (codes "g") 1 ∷ function_symbol 0 (codes "h") 2 ∷ function_symbol 0 (codes "d") 3 ∷ [];
}

abbrev pub chain_file : List ℕ
chain_file = hex (codes "00 10 80 80 80 80 00 0B 00 0B")

abbrev pub dead_dropped : Row
dead_dropped = record {
  link = link_by Plain (read_as (chain ∷ [])) (exporting 1 (codes "f" ∷ [])) (chain_file ∷ []);
  answer = Ok (header ++ hex (codes "01 04 01 60 00 00 03 04 03 00 00 00") ++ storage
      ++ hex (codes "07 0E 02 06 6D 65 6D 6F 72 79 02 00 01 66 00 00 0A 16 03 08 00 10 81 80 80 80 00 0B 08 00 10 82 80 80 80 00 0B 02 00 0B"));
}

abbrev pub dead_kept : Row
dead_kept = record {
  link = link_by Plain (read_as (chain ∷ [])) (record (exporting 1 (codes "f" ∷ [])) { gc = false }) (chain_file ∷ []);
  answer = Ok (header ++ hex (codes "01 04 01 60 00 00 03 05 04 00 00 00 00") ++ storage
      ++ hex (codes "07 0E 02 06 6D 65 6D 6F 72 79 02 00 01 66 00 00 0A 1F 04 08 00 10 81 80 80 80 00 0B 08 00 10 82 80 80 80 00 0B 02 00 0B 08 00 10 82 80 80 80 00 0B"));
}

-- ---- libraries

-- f is exported and calls a, which is undefined with these flags
abbrev pub needing : ℕ → Object
needing flags = record (empty_object 1) {
  types = plain_type ∷ [];
  imports = function_import (codes "env") (codes "a") 0 ∷ [];
  functions = body_at 0 (span 0 8) (names 0 2 1 ∷ []) ∷ [];
  symbols = function_symbol 0 (codes "f") 1 ∷ function_symbol flags (codes "a") 0 ∷ [];
}

-- member 1 defines a and calls b, which member 2 defines
abbrev pub member_a : Object
member_a = record (empty_object 2) {
  types = plain_type ∷ [];
  imports = function_import (codes "env") (codes "b") 0 ∷ [];
  functions = body_at 0 (span 0 8) (names 0 2 1 ∷ []) ∷ [];
  symbols = function_symbol 0 (codes "a") 1 ∷ function_symbol 0x10 (codes "b") 0 ∷ [];
}

abbrev pub member_b : Object
member_b = record (empty_object 3) { types = plain_type ∷ []; functions = body_at 0 (span 0 2) [] ∷ []; symbols = function_symbol 0 (codes "b") 0 ∷ [] }

-- the library's magic, and its two members
abbrev pub library_file : List ℕ
library_file = hex (codes "21 3C 61 72 63 68 3E 0A 00 10 80 80 80 80 00 0B 00 0B")

abbrev pub library : Contents
library = record { members = span 8 8 ∷ span 16 2 ∷ []; offered = (codes "a", 0) ∷ (codes "b", 1) ∷ [] }

abbrev pub needing_file : List ℕ
needing_file = hex (codes "00 10 80 80 80 80 00 0B")

-- The first round adds the member that defines a, the second the one that defines b.
abbrev pub two_rounds : Row
two_rounds = record {
  link = link_by Plain (read_with (needing 0x10 ∷ member_a ∷ member_b ∷ []) library) (exporting 2 (codes "f" ∷ [])) (needing_file ∷ library_file ∷ []);
  answer = Ok (header ++ hex (codes "01 04 01 60 00 00 03 04 03 00 00 00") ++ storage
      ++ hex (codes "07 0E 02 06 6D 65 6D 6F 72 79 02 00 01 66 00 00 0A 16 03 08 00 10 81 80 80 80 00 0B 08 00 10 82 80 80 80 00 0B 02 00 0B"));
}

-- A WEAK reference loads nothing: f calls the stub of a.
abbrev pub weak_reference : Row
weak_reference = record {
  link = link_by Plain (read_with (needing 0x11 ∷ member_a ∷ member_b ∷ []) library) (exporting 2 (codes "f" ∷ [])) (needing_file ∷ library_file ∷ []);
  answer = Ok (header ++ hex (codes "01 04 01 60 00 00 03 03 02 00 00") ++ storage
      ++ hex (codes "07 0E 02 06 6D 65 6D 6F 72 79 02 00 01 66 00 01 0A 0E 02 03 00 00 0B 08 00 10 80 80 80 80 00 0B"));
}

-- The index gives a for a member that doesn't define it.
abbrev pub lying_index : Row
lying_index = record {
  link = link_by Plain (read_with (needing 0x10 ∷ member_b ∷ []) (record { members = span 16 2 ∷ []; offered = (codes "a", 0) ∷ [] })) (exporting 2 (codes "f" ∷ [])) (needing_file ∷ library_file ∷ []);
  answer = Err (IndexLies 2 (codes "a"));
}

abbrev pub rows : List Row
rows = one_copy ∷ no_copy_kept ∷ local_member ∷ by_priorities ∷ no_inits ∷ skipped_init ∷ init_lost ∷ init_left_out ∷ init_dead ∷ init_exported ∷ dead_dropped ∷ dead_kept ∷ two_rounds ∷ weak_reference ∷ lying_index ∷ []
