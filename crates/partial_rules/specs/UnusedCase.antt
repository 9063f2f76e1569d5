-- One object: a weak definition of a linker-made name that nothing refers to has no symbol.
use Rattle.std.specs.Prelude.{ℕ, List, [], ◌∷◌, ◌++◌, Some, None, codes, pos}
use Rattle.object_file.specs.wasm_types.declared.value.ValType.TheVariants.{I32}
use Rattle.object_file.specs.wasm_types.declared.import.ImportKind.TheVariants as kinds
use Rattle.object_file.specs.linking_section.declared.symbol.SymbolKind.TheVariants.{Function, Datum}
use Rattle.object_file.specs.body_windows.declared.operand.Operand.TheVariants as operands
use Rattle.object_file.specs.declared.object.Object.{Object}
use Rattle.link_rules.specs.Examples.{hex}

-- The object, and its file.
abbrev pub unused_objects : List Object
unused_objects = (record {
  input = 1;
  types = ((record { params = (I32 ∷ []); results = (I32 ∷ []) }) ∷ (record { params = ([]); results = ([]) }) ∷ (record { params = ([]); results = ([]) }) ∷ (record { params = (I32 ∷ I32 ∷ []); results = ([]) }) ∷ (record { params = ([]); results = ([]) }) ∷ []);
  imports = (record { «module» = (hex (codes "65 6E 76")); field = (hex (codes "66 30")); kind = (kinds.Function 1) } ∷ record { «module» = (hex (codes "65 6E 76")); field = (hex (codes "66 34")); kind = (kinds.Function 2) } ∷ record { «module» = (hex (codes "65 6E 76")); field = (hex (codes "66 33")); kind = (kinds.Function 2) } ∷ []);
  functions = (record { type_index = 2; span = (record { start = 91; len = 6 }); operands = ([]); export_name = None } ∷ record { type_index = 3; span = (record { start = 98; len = 19 }); operands = (operands.Symbol 0 4 5 (pos 0) ∷ operands.Number ∷ operands.TypeRef 12 4 ∷ operands.TableZero ∷ []); export_name = None } ∷ []);
  globals = ([]);
  segments = (record { span = (record { start = 125; len = 3 }); info = (record { name = (hex (codes "2E 64 61 74 61")); align = 2; flags = 5 }); windows = ([]) } ∷ []);
  symbols = (record { kind = Function; flags = 17; name = (Some (hex (codes "66 30"))); index = 0; offset = 0; size = 0 } ∷ record { kind = Function; flags = 2; name = (Some (hex (codes "6C 31"))); index = 4; offset = 0; size = 0 } ∷ record { kind = Datum; flags = 0; name = (Some (hex (codes "64 30"))); index = 0; offset = 2; size = 0 } ∷ record { kind = Function; flags = 16; name = (Some (hex (codes "66 34"))); index = 1; offset = 0; size = 0 } ∷ record { kind = Function; flags = 1; name = (Some (hex (codes "5F 5F 77 61 73 6D 5F 63 61 6C 6C 5F 63 74 6F 72 73"))); index = 3; offset = 0; size = 0 } ∷ record { kind = Function; flags = 16; name = (Some (hex (codes "66 33"))); index = 2; offset = 0; size = 0 } ∷ []);
  inits = ([]);
  groups = ([]);
} ∷ [])

abbrev pub unused_files : List (List ℕ)
unused_files = ((hex (codes "00 61 73 6D 01 00 00 00 01 9C 80 80 00 05 60 01 7F 01 7F 60 00 80 00 60 00 00 60 02 7F 7F 80 80 80 00 60 00 80 80 80 80 00 02 20 03 03 65 6E 76")
    ++ hex (codes "02 66 30 00 01 03 65 6E 76 02 66 34 00 02 83 80 80 80 00 65 6E 76 02 66 33 00 02 03 03 02 02 03 0C 03 81 80 00 0A 1E 02 86 80 00 02 01 7F 01 7E")
    ++ hex (codes "0B 13 01 02 7F 10 80 80 80 80 00 41 00 11 80 80 80 80 00 00 0B 0B 09 01 00 41 00 0B 03 FF FF 00 00 44 07 6C 69 6E 6B 69 6E 67 02 08 2E 06 00 11")
    ++ hex (codes "00 00 02 04 02 6C 31 01 00 02 64 30 00 02 00 00 10 01 00 01 03 11 5F 5F 77 61 73 6D 5F 63 61 6C 6C 5F 63 74 6F 72 73 00 90 00 02 05 09 01 05 2E")
    ++ hex (codes "64 61 74 61 02 05 00 13 0A 72 65 6C 6F 63 2E 43 4F 44 45 04 02 00 0F 05 06 17 04")) ∷ [])

abbrev pub unused_made : List ℕ
unused_made = (hex (codes "00 61 73 6D 01 00 00 00 01 09 02 60 00 00 60 02 7F 7F 00 02 33 04 03 65 6E 76 0F 5F 5F 6C 69 6E 65 61 72 5F 6D 65 6D 6F 72 79 02 00 00 03 65 6E")
    ++ hex (codes "76 02 66 30 00 00 03 65 6E 76 02 66 34 00 00 03 65 6E 76 02 66 33 00 00 03 03 02 00 01 0A 1C 02 06 02 01 7F 01 7E 0B 13 01 02 7F 10 80 80 80 80")
    ++ hex (codes "00 41 00 11 80 80 80 80 00 00 0B 0B 09 01 00 41 00 0B 03 FF FF 00 00 2E 07 6C 69 6E 6B 69 6E 67 02 08 18 05 00 11 00 00 02 04 02 6C 31 01 00 02")
    ++ hex (codes "64 30 00 02 00 00 10 01 00 10 02 05 09 01 05 2E 64 61 74 61 02 05 00 13 0A 72 65 6C 6F 63 2E 43 4F 44 45 03 02 00 0D 04 06 15 00"))
