-- Worked links: data, memory, slots and cells of addresses.
use Rattle.std.specs.Prelude.{ℕ, List, [], ◌∷◌, ◌++◌, Some, Ok, Err, codes, pos, negsuc}
use Rattle.name_rules.specs.object_file.declared.object.Object.{Object}
use Rattle.made_symbols.specs.declared.mode.Mode.TheVariants.{Plain}
use Rattle.link_rules.specs.LinkOf.{link_by}
use Rattle.name_rules.specs.object_file.wl_base.declared.fault.Fault.TheVariants.{Overflow}
use Rattle.name_rules.specs.object_file.wl_base.declared.fault.What.TheVariants.{HeapBase, MaxMemory, Reference}
use Rattle.link_plan.specs.declared.plan.Plan.{Plan}
use Rattle.name_rules.specs.object_file.body_windows.declared.operand.Operand.TheVariants as operands
use Rattle.link_rules.specs.Examples.{hex, Row, plan_of, exporting, read_as, empty_object, span, function_symbol, datum_symbol, body_at, names, word_at, segment_at, function_import, plain_type, int_type}
use Rattle.link_rules.specs.NameRows.{header, storage}

-- ---- memory

-- an object without anything, with a stack of this size
abbrev pub with_stack : ℕ → Plan
with_stack size = record (plan_of 1) { stack_size = size }

abbrev pub stack_too_large : Row
stack_too_large = record { link = link_by Plain (read_as (empty_object 1 ∷ [])) (with_stack 4294966272) ([] ∷ []); answer = Err (Overflow HeapBase (pos 4294967296)) }

-- The heap begins at 4294967280, so the memory has 65,536 pages.
abbrev pub stack_fits : Row
stack_fits = record {
  link = link_by Plain (read_as (empty_object 1 ∷ [])) (with_stack 4294966256) ([] ∷ []);
  answer = Ok (header ++ hex (codes "04 05 01 70 01 01 01 05 05 01 00 80 80 04 07 0A 01 06 6D 65 6D 6F 72 79 02 00"));
}

abbrev pub memory_too_small : Row
memory_too_small = record { link = link_by Plain (read_as (empty_object 1 ∷ [])) (record (plan_of 1) { max_memory = Some 65536 }) ([] ∷ []); answer = Err (Overflow MaxMemory (pos 131072)) }

-- ---- data

-- d has four bytes, and is exported
abbrev pub exported_datum : Row
exported_datum = record {
  link = link_by Plain (read_as (record (empty_object 1) { segments = segment_at (span 0 4) 2 [] ∷ []; symbols = datum_symbol 0 (codes "d") 0 0 4 ∷ [] } ∷ []))
      (exporting 1 (codes "d" ∷ [])) (hex (codes "2A 00 00 00") ∷ []);
  answer = Ok (header ++ storage ++ hex (codes "06 07 01 7F 00 41 80 08 0B 07 0E 02 06 6D 65 6D 6F 72 79 02 00 01 64 03 00 0B 0B 01 00 41 80 08 0B 04 2A 00 00 00"));
}

-- f gives the address of d
abbrev pub giving_address : Object
giving_address = record (empty_object 1) {
  types = int_type ∷ [];
  functions = body_at 0 (span 4 8) (names 4 2 0 ∷ []) ∷ [];
  segments = segment_at (span 0 4) 2 [] ∷ [];
  symbols = datum_symbol 0 (codes "d") 0 0 4 ∷ function_symbol 0 (codes "f") 0 ∷ [];
}

abbrev pub giving_file : List ℕ
giving_file = hex (codes "2A 00 00 00 00 41 80 80 80 80 00 0B")

abbrev pub address_of_datum : Row
address_of_datum = record {
  link = link_by Plain (read_as (giving_address ∷ [])) (exporting 1 (codes "f" ∷ [])) (giving_file ∷ []);
  answer = Ok (header ++ hex (codes "01 05 01 60 00 01 7F 03 02 01 00") ++ storage
      ++ hex (codes "07 0E 02 06 6D 65 6D 6F 72 79 02 00 01 66 00 00 0A 0A 01 08 00 41 80 88 80 80 00 0B 0B 0B 01 00 41 80 08 0B 04 2A 00 00 00"));
}

-- An address from 2^31 on is written as a negative number.
abbrev pub high_address : Row
high_address = record {
  link = link_by Plain (read_as (giving_address ∷ [])) (record (exporting 1 (codes "f" ∷ [])) { global_base = Some 2147483648 }) (giving_file ∷ []);
  answer = Ok (header ++ hex (codes "01 05 01 60 00 01 7F 03 02 01 00 04 05 01 70 01 01 01 05 05 01 00 82 80 02")
      ++ hex (codes "07 0E 02 06 6D 65 6D 6F 72 79 02 00 01 66 00 00 0A 0A 01 08 00 41 80 80 80 80 78 0B 0B 0E 01 00 41 80 80 80 80 78 0B 04 2A 00 00 00"));
}

-- A word of data holds the address of d plus 2, and another the slot of f; a segment of zeros behind it takes no bytes. The
-- segment has RETAIN, so that it stays with nothing that refers to it.
abbrev pub words_of_data : Row
words_of_data = record {
  link = link_by Plain (read_as (record (empty_object 1) {
    types = plain_type ∷ [];
    functions = body_at 0 (span 12 2) [] ∷ [];
    segments = segment_at (span 8 4) 2 [] ∷ record (segment_at (span 0 8) 2 (record (word_at 0 5 0) { addend = pos 2 } ∷ word_at 4 2 1 ∷ [])) { info = record { name = []; align = 2; flags = 4 } } ∷ [];
    symbols = datum_symbol 0 (codes "d") 0 1 3 ∷ function_symbol 2 (codes "f") 0 ∷ [];
  } ∷ [])) (plan_of 1) (hex (codes "00 00 00 00 00 00 00 00 00 00 00 00 00 0B") ∷ []);
  answer = Ok (header ++ hex (codes "01 04 01 60 00 00 03 02 01 00 04 05 01 70 01 02 02 05 03 01 00 02 07 0A 01 06 6D 65 6D 6F 72 79 02 00")
      ++ hex (codes "09 07 01 00 41 01 0B 01 00 0A 04 01 02 00 0B 0B 0F 01 00 41 80 08 0B 08 0B 04 00 00 01 00 00 00"));
}

-- An address below 0 fits no window of an unsigned number.
abbrev pub below_zero : Row
below_zero = record {
  link = link_by Plain (read_as (record giving_address { functions = body_at 0 (span 4 8) (operands.Symbol 3 2 0 (negsuc 1024) ∷ []) ∷ [] } ∷ [])) (exporting 1 (codes "f" ∷ [])) (giving_file ∷ []);
  answer = Err (Overflow Reference (negsuc 0));
}

-- The address of a WEAK datum without a definition is 0, and its addend isn't added.
abbrev pub null_datum : Row
null_datum = record {
  link = link_by Plain (read_as (record (empty_object 1) {
    types = int_type ∷ [];
    functions = body_at 0 (span 0 8) (operands.Symbol 4 2 1 (pos 5) ∷ []) ∷ [];
    symbols = function_symbol 0 (codes "f") 0 ∷ datum_symbol 0x11 (codes "x") 0 0 0 ∷ [];
  } ∷ [])) (exporting 1 (codes "f" ∷ [])) (hex (codes "00 41 80 80 80 80 00 0B") ∷ []);
  answer = Ok (header ++ hex (codes "01 05 01 60 00 01 7F 03 02 01 00") ++ storage
      ++ hex (codes "07 0E 02 06 6D 65 6D 6F 72 79 02 00 01 66 00 00 0A 0A 01 08 00 41 80 80 80 80 00 0B"));
}

-- ---- slots and cells

-- f takes its own address
abbrev pub own_slot : Row
own_slot = record {
  link = link_by Plain (read_as (record (empty_object 1) { types = int_type ∷ []; functions = body_at 0 (span 0 8) (names 1 2 0 ∷ []) ∷ []; symbols = function_symbol 0 (codes "f") 0 ∷ [] } ∷ []))
      (exporting 1 (codes "f" ∷ [])) (hex (codes "00 41 80 80 80 80 00 0B") ∷ []);
  answer = Ok (header ++ hex (codes "01 05 01 60 00 01 7F 03 02 01 00 04 05 01 70 01 02 02 05 03 01 00 02")
      ++ hex (codes "07 0E 02 06 6D 65 6D 6F 72 79 02 00 01 66 00 00 09 07 01 00 41 01 0B 01 00 0A 0A 01 08 00 41 81 80 80 80 00 0B"));
}

-- f reads the address of an imported function from a cell: the function is imported for its slot.
abbrev pub cell_of_import : Row
cell_of_import = record {
  link = link_by Plain (read_as (record (empty_object 1) {
    types = int_type ∷ [];
    imports = function_import (codes "m") (codes "x") 0 ∷ [];
    functions = body_at 0 (span 0 8) (names 7 2 1 ∷ []) ∷ [];
    symbols = function_symbol 0 (codes "f") 1 ∷ function_symbol 0x50 (codes "x") 0 ∷ [];
  } ∷ [])) (exporting 1 (codes "f" ∷ [])) (hex (codes "00 23 80 80 80 80 00 0B") ∷ []);
  answer = Ok (header ++ hex (codes "01 05 01 60 00 01 7F 02 07 01 01 6D 01 78 00 00 03 02 01 00 04 05 01 70 01 02 02 05 03 01 00 02 06 06 01 7F 00 41 01 0B")
      ++ hex (codes "07 0E 02 06 6D 65 6D 6F 72 79 02 00 01 66 00 01 09 07 01 00 41 01 0B 01 00 0A 0A 01 08 00 23 80 80 80 80 00 0B"));
}

abbrev pub rows : List Row
rows = stack_too_large ∷ stack_fits ∷ memory_too_small ∷ exported_datum ∷ address_of_datum ∷ high_address ∷ words_of_data ∷ below_zero ∷ null_datum ∷ own_slot ∷ cell_of_import ∷ []
