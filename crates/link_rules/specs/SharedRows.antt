-- Worked links of shared outputs, by plans that ask for them.
use Rattle.std.specs.Prelude.{ℕ, true, List, [], ◌∷◌, ◌++◌, Ok, Err, codes, pos}
use Rattle.name_rules.specs.object_file.wl_base.declared.fault.Fault.TheVariants.{NotPic}
use Rattle.name_rules.specs.object_file.wasm_types.declared.import.ImportKind.TheVariants as kinds
use Rattle.name_rules.specs.object_file.wasm_types.declared.value.ValType.TheVariants.{I32}
use Rattle.name_rules.specs.object_file.body_windows.declared.operand.Operand.TheVariants as operands
use Rattle.link_plan.specs.declared.plan.Plan.{Plan}
use Rattle.link_rules.specs.ModeOf.{mode_of}
use Rattle.link_rules.specs.LinkOf.{link_by}
use Rattle.link_rules.specs.Examples.{hex, Row, exporting, read_as, empty_object, span, function_symbol, datum_symbol, body_at, names, word_at, segment_at, plain_type}
use Rattle.link_rules.specs.NameRows.{header}
use Rattle.link_rules.specs.MoreRows.{shared_imports}
use Rattle.link_rules.specs.FurtherRows.{global_symbol}

abbrev pub sharing : ℕ → List (List ℕ) → Plan
sharing inputs names = record (exporting inputs names) { shared = true }

-- An address relative to the memory's base can't be that of a foreign datum.
abbrev pub foreign_relative : Row
foreign_relative = record {
  link = link_by (mode_of (sharing 1 (codes "f" ∷ []))) (read_as (record (empty_object 1) {
    types = plain_type ∷ [];
    functions = body_at 0 (span 0 9) (operands.Symbol 11 2 1 (pos 0) ∷ []) ∷ [];
    symbols = function_symbol 0 (codes "f") 0 ∷ datum_symbol 0x10 (codes "x") 0 0 0 ∷ [];
  } ∷ [])) (sharing 1 (codes "f" ∷ [])) (hex (codes "00 41 80 80 80 80 00 1A 0B") ∷ []);
  answer = Err (NotPic 1 1 11);
}

-- The cells of foreign addresses: that of b, which code reads, before that of a, to which a word of data points.
abbrev pub code_before_data : Row
code_before_data = record {
  link = link_by (mode_of (sharing 1 (codes "f" ∷ []))) (read_as (record (empty_object 1) {
    types = plain_type ∷ [];
    functions = body_at 0 (span 4 9) (names 7 2 2 ∷ []) ∷ [];
    segments = record (segment_at (span 0 4) 2 (word_at 0 5 1 ∷ [])) { info = record { name = []; align = 2; flags = 4 } } ∷ [];
    symbols = function_symbol 0 (codes "f") 0 ∷ datum_symbol 0x10 (codes "a") 0 0 0 ∷ datum_symbol 0x10 (codes "b") 0 0 0 ∷ [];
  } ∷ [])) (sharing 1 (codes "f" ∷ [])) (hex (codes "00 00 00 00 00 23 80 80 80 80 00 1A 0B") ∷ []);
  answer = Ok (header ++ hex (codes "00 0F 08 64 79 6C 69 6E 6B 2E 30 01 04 04 02 00 00 01 04 01 60 00 00 02 8B 01 07") ++ shared_imports 1
      ++ 7 ∷ codes "GOT.mem" ++ hex (codes "01 62 03 7F 01") ++ 7 ∷ codes "GOT.mem" ++ hex (codes "01 61 03 7F 01 03 03 02 00 00 07 20 02 18")
      ++ codes "__wasm_apply_data_relocs" ++ hex (codes "00 00 01 66 00 01 0A 2B 02 1F 00")
      ++ hex (codes "23 81 80 80 80 00 41 80 80 80 80 00 6A 23 84 80 80 80 00 41 80 80 80 80 00 6A 36 02 00 0B")
      ++ hex (codes "09 00 23 83 80 80 80 00 1A 0B 0B 0A 01 00 23 01 0B 04 00 00 00 00"));
}

-- The cell that y imports by name isn't made for the WEAK datum x, to which nothing refers: the loader isn't told that it may be absent.
abbrev pub weak_unused : Row
weak_unused = record {
  link = link_by (mode_of (sharing 1 (codes "f" ∷ []))) (read_as (record (empty_object 1) {
    types = plain_type ∷ [];
    imports = record { «module» = codes "GOT.mem"; field = codes "x"; kind = kinds.GlobalVar (record { kind = I32; var = true }) } ∷ [];
    functions = body_at 0 (span 0 9) (names 7 2 1 ∷ []) ∷ [];
    symbols = function_symbol 0 (codes "f") 0 ∷ global_symbol 0x50 (codes "y") 0 ∷ datum_symbol 0x11 (codes "x") 0 0 0 ∷ [];
  } ∷ [])) (sharing 1 (codes "f" ∷ [])) (hex (codes "00 23 80 80 80 80 00 1A 0B") ∷ []);
  answer = Ok (header ++ hex (codes "00 0F 08 64 79 6C 69 6E 6B 2E 30 01 04 00 00 00 00 01 04 01 60 00 00 02 7E 06") ++ shared_imports 0
      ++ 7 ∷ codes "GOT.mem" ++ hex (codes "01 78 03 7F 01 03 02 01 00 07 05 01 01 66 00 00 0A 0B 01 09 00 23 83 80 80 80 00 1A 0B"));
}

abbrev pub rows : List Row
rows = foreign_relative ∷ code_before_data ∷ weak_unused ∷ []
