-- Two objects: f0 calls f1 and w, of which each object has a copy in a group.
use Rattle.std.specs.Prelude.{ℕ, List, [], ◌∷◌, ◌++◌, Some, None, codes, pos}
use Rattle.object_file.specs.wasm_types.declared.value.ValType.TheVariants.{I32}
use Rattle.object_file.specs.wasm_types.declared.import.ImportKind.TheVariants as kinds
use Rattle.object_file.specs.linking_section.declared.symbol.SymbolKind.TheVariants.{Function, Datum}
use Rattle.object_file.specs.body_windows.declared.operand.Operand.TheVariants as operands
use Rattle.object_file.specs.declared.object.Object.{Object}
use Rattle.link_rules.specs.Examples.{hex}

-- The objects, and their files.
abbrev pub grouped_objects : List Object
grouped_objects = record {
  input = 1;
  types = ((record { params = ([]); results = (I32 ∷ []) }) ∷ []);
  imports = (record { «module» = (hex (codes "65 6E 76")); field = (hex (codes "5F 5F 6C 69 6E 65 61 72 5F 6D 65 6D 6F 72 79")); kind = (kinds.Memory (record { min = 1; max = None })) } ∷ record { «module» = (hex (codes "65 6E 76")); field = (hex (codes "66 31")); kind = (kinds.Function 0) } ∷ []);
  functions = (record { type_index = 0; span = (record { start = 59; len = 25 }); operands = (operands.Symbol 0 2 3 (pos 0) ∷ operands.Symbol 0 8 1 (pos 0) ∷ operands.Symbol 4 15 2 (pos 0) ∷ operands.Number ∷ []); export_name = None } ∷ record { type_index = 0; span = (record { start = 85; len = 8 }); operands = (operands.Number ∷ []); export_name = None } ∷ []);
  globals = ([]);
  segments = (record { span = (record { start = 101; len = 4 }); info = (record { name = (hex (codes "2E 64 61 74 61")); align = 2; flags = 0 }); windows = ([]) } ∷ []);
  symbols = (record { kind = Function; flags = 0; name = (Some (hex (codes "66 30"))); index = 1; offset = 0; size = 0 } ∷ record { kind = Function; flags = 1; name = (Some (hex (codes "77"))); index = 2; offset = 0; size = 0 } ∷ record { kind = Datum; flags = 0; name = (Some (hex (codes "64 30"))); index = 0; offset = 0; size = 4 } ∷ record { kind = Function; flags = 16; name = (Some (hex (codes "66 31"))); index = 0; offset = 0; size = 0 } ∷ []);
  inits = ([]);
  groups = (record { name = (hex (codes "77")); members = (record { kind = 1; index = 2 } ∷ []) } ∷ []);
}
    ∷ record {
      input = 2;
      types = ((record { params = ([]); results = (I32 ∷ []) }) ∷ []);
      imports = (record { «module» = (hex (codes "65 6E 76")); field = (hex (codes "5F 5F 6C 69 6E 65 61 72 5F 6D 65 6D 6F 72 79")); kind = (kinds.Memory (record { min = 1; max = None })) } ∷ []);
      functions = (record { type_index = 0; span = (record { start = 50; len = 18 }); operands = (operands.Symbol 0 2 1 (pos 0) ∷ operands.Symbol 4 8 2 (pos 0) ∷ operands.Number ∷ []); export_name = None } ∷ record { type_index = 0; span = (record { start = 69; len = 8 }); operands = (operands.Number ∷ []); export_name = None } ∷ []);
      globals = ([]);
      segments = (record { span = (record { start = 85; len = 4 }); info = (record { name = (hex (codes "2E 64 61 74 61")); align = 2; flags = 0 }); windows = ([]) } ∷ []);
      symbols = (record { kind = Function; flags = 0; name = (Some (hex (codes "66 31"))); index = 0; offset = 0; size = 0 } ∷ record { kind = Function; flags = 1; name = (Some (hex (codes "77"))); index = 1; offset = 0; size = 0 } ∷ record { kind = Datum; flags = 0; name = (Some (hex (codes "64 31"))); index = 0; offset = 0; size = 4 } ∷ []);
      inits = ([]);
      groups = (record { name = (hex (codes "77")); members = (record { kind = 1; index = 1 } ∷ []) } ∷ []);
    }
    ∷ []

abbrev pub grouped_files : List (List ℕ)
grouped_files = ((hex (codes "00 61 73 6D 01 00 00 00 01 05 01 60 00 01 7F 02 21 02 03 65 6E 76 0F 5F 5F 6C 69 6E 65 61 72 5F 6D 65 6D 6F 72 79 02 00 01 03 65 6E 76 02 66 31")
    ++ hex (codes "00 00 03 03 02 00 00 0A 24 02 19 00 10 80 80 80 80 00 10 80 80 80 80 00 6A 41 80 80 80 80 00 28 02 00 6A 0B 08 00 41 80 80 80 80 00 0B 0B 0A 01")
    ++ hex (codes "00 41 00 0B 04 01 00 00 00 00 36 07 6C 69 6E 6B 69 6E 67 02 08 17 04 00 00 01 02 66 30 00 01 02 01 77 01 00 02 64 30 00 00 04 00 10 00 05 09 01")
    ++ hex (codes "05 2E 64 61 74 61 02 00 07 07 01 01 77 00 01 01 02 00 17 0A 72 65 6C 6F 63 2E 43 4F 44 45 03 03 00 04 03 00 0A 01 04 11 02 00")) ∷ (hex (codes "00 61 73 6D 01 00 00 00 01 05 01 60 00 01 7F 02 18 01 03 65 6E 76 0F 5F 5F 6C 69 6E 65 61 72 5F 6D 65 6D 6F 72 79 02 00 01 03 03 02 00 00 0A 1D")
    ++ hex (codes "02 12 00 10 80 80 80 80 00 41 80 80 80 80 00 28 02 00 6A 0B 08 00 41 81 80 80 80 00 0B 0B 0A 01 00 41 00 0B 04 02 00 00 00 00 33 07 6C 69 6E 6B")
    ++ hex (codes "69 6E 67 02 08 14 03 00 00 00 02 66 31 00 01 01 01 77 01 00 02 64 31 00 00 04 05 09 01 05 2E 64 61 74 61 02 00 07 07 01 01 77 00 01 01 01 00 14")
    ++ hex (codes "0A 72 65 6C 6F 63 2E 43 4F 44 45 03 02 00 04 01 04 0A 02 00")) ∷ [])

abbrev pub grouped_made : List ℕ
grouped_made = (hex (codes "00 61 73 6D 01 00 00 00 01 05 01 60 00 01 7F 02 18 01 03 65 6E 76 0F 5F 5F 6C 69 6E 65 61 72 5F 6D 65 6D 6F 72 79 02 00 00 03 04 03 00 00 00 0A")
    ++ hex (codes "37 03 19 00 10 80 80 80 80 00 10 80 80 80 80 00 6A 41 80 80 80 80 00 28 02 00 6A 0B 08 00 41 80 80 80 80 00 0B 12 00 10 80 80 80 80 00 41 80 80")
    ++ hex (codes "80 80 00 28 02 00 6A 0B 0B 13 02 00 41 00 0B 04 01 00 00 00 00 41 00 0B 04 02 00 00 00 00 49 07 6C 69 6E 6B 69 6E 67 02 08 22 05 00 00 00 02 66")
    ++ hex (codes "30 00 01 01 01 77 01 00 02 64 30 00 00 04 00 00 02 02 66 31 01 00 02 64 31 01 00 04 05 11 02 05 2E 64 61 74 61 02 00 05 2E 64 61 74 61 02 00 07")
    ++ hex (codes "07 01 01 77 00 01 01 01 00 1E 0A 72 65 6C 6F 63 2E 43 4F 44 45 03 05 00 04 03 00 0A 01 04 11 02 00 00 27 01 04 2D 04 00"))

-- The made bytes as an object, as the reader gives them, and the output of both links.
abbrev pub grouped_read : Object
grouped_read = record {
  input = 1;
  types = ((record { params = ([]); results = (I32 ∷ []) }) ∷ []);
  imports = (record { «module» = (hex (codes "65 6E 76")); field = (hex (codes "5F 5F 6C 69 6E 65 61 72 5F 6D 65 6D 6F 72 79")); kind = (kinds.Memory (record { min = 0; max = None })) } ∷ []);
  functions = (record { type_index = 0; span = (record { start = 51; len = 25 }); operands = (operands.Symbol 0 2 3 (pos 0) ∷ operands.Symbol 0 8 1 (pos 0) ∷ operands.Symbol 4 15 2 (pos 0) ∷ operands.Number ∷ []); export_name = None } ∷ record { type_index = 0; span = (record { start = 77; len = 8 }); operands = (operands.Number ∷ []); export_name = None } ∷ record { type_index = 0; span = (record { start = 86; len = 18 }); operands = (operands.Symbol 0 2 1 (pos 0) ∷ operands.Symbol 4 8 4 (pos 0) ∷ operands.Number ∷ []); export_name = None } ∷ []);
  globals = ([]);
  segments = (record { span = (record { start = 112; len = 4 }); info = (record { name = (hex (codes "2E 64 61 74 61")); align = 2; flags = 0 }); windows = ([]) } ∷ record { span = (record { start = 121; len = 4 }); info = (record { name = (hex (codes "2E 64 61 74 61")); align = 2; flags = 0 }); windows = ([]) } ∷ []);
  symbols = (record { kind = Function; flags = 0; name = (Some (hex (codes "66 30"))); index = 0; offset = 0; size = 0 } ∷ record { kind = Function; flags = 1; name = (Some (hex (codes "77"))); index = 1; offset = 0; size = 0 } ∷ record { kind = Datum; flags = 0; name = (Some (hex (codes "64 30"))); index = 0; offset = 0; size = 4 } ∷ record { kind = Function; flags = 0; name = (Some (hex (codes "66 31"))); index = 2; offset = 0; size = 0 } ∷ record { kind = Datum; flags = 0; name = (Some (hex (codes "64 31"))); index = 1; offset = 0; size = 4 } ∷ []);
  inits = ([]);
  groups = (record { name = (hex (codes "77")); members = (record { kind = 1; index = 1 } ∷ []) } ∷ []);
}

abbrev pub grouped_output : List ℕ
grouped_output = (hex (codes "00 61 73 6D 01 00 00 00 01 05 01 60 00 01 7F 03 04 03 00 00 00 04 05 01 70 01 01 01 05 03 01 00 02 07 0F 02 06 6D 65 6D 6F 72 79 02 00 02 66 30")
    ++ hex (codes "00 00 0A 37 03 19 00 10 82 80 80 80 00 10 81 80 80 80 00 6A 41 80 88 80 80 00 28 02 00 6A 0B 08 00 41 80 80 80 80 00 0B 12 00 10 81 80 80 80 00")
    ++ hex (codes "41 84 88 80 80 00 28 02 00 6A 0B 0B 0F 01 00 41 80 08 0B 08 01 00 00 00 02 00 00 00"))
