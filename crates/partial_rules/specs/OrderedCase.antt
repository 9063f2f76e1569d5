-- Four objects: one has a section in a group, a later one has the import that counts, and init functions fall in priority.
use Rattle.std.specs.Prelude.{ℕ, true, List, [], ◌∷◌, ◌++◌, Some, None, codes, pos, negsuc}
use Rattle.object_file.specs.wasm_types.declared.value.ValType.TheVariants.{I32, I64, F32, F64}
use Rattle.object_file.specs.wasm_types.declared.import.ImportKind.TheVariants as kinds
use Rattle.object_file.specs.wasm_types.declared.const_expr.ConstExpr.TheVariants as constants
use Rattle.object_file.specs.linking_section.declared.symbol.SymbolKind.TheVariants.{Function, Datum, GlobalVar, Table}
use Rattle.object_file.specs.body_windows.declared.operand.Operand.TheVariants as operands
use Rattle.object_file.specs.declared.object.Object.{Object}
use Rattle.link_rules.specs.Examples.{hex}

-- The objects, and their files.
abbrev pub ordered_objects : List Object
ordered_objects = record {
  input = 1;
  types = ((record { params = ([]); results = ([]) }) ∷ (record { params = (F64 ∷ []); results = (F32 ∷ []) }) ∷ (record { params = ([]); results = ([]) }) ∷ []);
  imports = (record { «module» = (hex (codes "65 6E 76")); field = (hex (codes "5F 5F 6C 69 6E 65 61 72 5F 6D 65 6D 6F 72 79")); kind = (kinds.Memory (record { min = 0; max = None })) } ∷ record { «module» = (hex (codes "65 6E 76")); field = (hex (codes "5F 5F 69 6E 64 69 72 65 63 74 5F 66 75 6E 63 74 69 6F 6E 5F 74 61 62 6C 65")); kind = (kinds.Table (record { funcref = true; limits = (record { min = 0; max = None }) })) } ∷ record { «module» = (hex (codes "77 61 73 69")); field = (hex (codes "66 30")); kind = (kinds.Function 0) } ∷ record { «module» = (hex (codes "6D")); field = (hex (codes "66 C3 A9 31")); kind = (kinds.Function 1) } ∷ []);
  functions = (record { type_index = 0; span = (record { start = 122; len = 34 }); operands = (operands.Symbol 0 2 0 (pos 0) ∷ operands.Symbol 0 17 6 (pos 0) ∷ operands.Number ∷ operands.Symbol 7 26 0 (pos 0) ∷ []); export_name = None } ∷ record { type_index = 0; span = (record { start = 157; len = 6 }); operands = ([]); export_name = None } ∷ record { type_index = 2; span = (record { start = 164; len = 6 }); operands = ([]); export_name = None } ∷ record { type_index = 0; span = (record { start = 171; len = 9 }); operands = (operands.Symbol 4 2 9 (pos 100) ∷ []); export_name = None } ∷ []);
  globals = ([]);
  segments = (record { span = (record { start = 188; len = 12 }); info = (record { name = (hex (codes "2E 64 61 74 61")); align = 1; flags = 0 }); windows = (record { kind = 2; offset = 0; index = 5; addend = (pos 0) } ∷ record { kind = 5; offset = 6; index = 7; addend = (pos 4) } ∷ []) } ∷ record { span = (record { start = 205; len = 4 }); info = (record { name = (hex (codes "2E 62 73 73")); align = 0; flags = 0 }); windows = ([]) } ∷ []);
  symbols = (record { kind = Function; flags = 4; name = (Some (hex (codes "66 32"))); index = 3; offset = 0; size = 0 } ∷ record { kind = Function; flags = 1; name = (Some (hex (codes "63 31"))); index = 5; offset = 0; size = 0 } ∷ record { kind = Function; flags = 80; name = (Some (hex (codes "66 30"))); index = 0; offset = 0; size = 0 } ∷ record { kind = Table; flags = 16; name = (Some (hex (codes "5F 5F 69 6E 64 69 72 65 63 74 5F 66 75 6E 63 74 69 6F 6E 5F 74 61 62 6C 65"))); index = 0; offset = 0; size = 0 } ∷ record { kind = Datum; flags = 20; name = (Some (hex (codes "64 32"))); index = 0; offset = 0; size = 0 } ∷ record { kind = Function; flags = 0; name = (Some (hex (codes "5F 73 74 61 72 74"))); index = 2; offset = 0; size = 0 } ∷ record { kind = Function; flags = 80; name = (Some (hex (codes "66 C3 A9 31"))); index = 1; offset = 0; size = 0 } ∷ record { kind = Datum; flags = 2; name = (Some (hex (codes "64 33"))); index = 0; offset = 1; size = 2 } ∷ record { kind = Datum; flags = 1; name = (Some (hex (codes "65 31"))); index = 1; offset = 1; size = 2 } ∷ record { kind = Datum; flags = 0; name = (Some (hex (codes "64 31"))); index = 0; offset = 3; size = 5 } ∷ []);
  inits = (record { priority = 65535; symbol = 0 } ∷ record { priority = 0; symbol = 1 } ∷ record { priority = 65535; symbol = 2 } ∷ []);
  groups = (record { name = (hex (codes "67 72 70 31")); members = (record { kind = 1; index = 5 } ∷ record { kind = 0; index = 1 } ∷ record { kind = 5; index = 0 } ∷ []) } ∷ []);
}
    ∷ record {
      input = 2;
      types = ((record { params = ([]); results = ([]) }) ∷ (record { params = (F64 ∷ []); results = (F32 ∷ []) }) ∷ []);
      imports = (record { «module» = (hex (codes "65 6E 76")); field = (hex (codes "5F 5F 69 6E 64 69 72 65 63 74 5F 66 75 6E 63 74 69 6F 6E 5F 74 61 62 6C 65")); kind = (kinds.Table (record { funcref = true; limits = (record { min = 0; max = None }) })) } ∷ record { «module» = (hex (codes "65 6E 76")); field = (hex (codes "67 30")); kind = (kinds.GlobalVar (record { kind = I64; var = true })) } ∷ record { «module» = (hex (codes "6D")); field = (hex (codes "66 C3 A9 31")); kind = (kinds.Function 1) } ∷ []);
      functions = (record { type_index = 0; span = (record { start = 109; len = 6 }); operands = ([]); export_name = (Some (hex (codes "65 78 36"))) } ∷ record { type_index = 0; span = (record { start = 119; len = 35 }); operands = (operands.Symbol 7 6 5 (pos 0) ∷ operands.Symbol 0 22 7 (pos 0) ∷ operands.Symbol 0 29 6 (pos 0) ∷ []); export_name = None } ∷ []);
      globals = ([]);
      segments = (record { span = (record { start = 162; len = 4 }); info = (record { name = []; align = 0; flags = 0 }); windows = ([]) } ∷ []);
      symbols = (record { kind = Datum; flags = 17; name = (Some (hex (codes "64 30"))); index = 0; offset = 0; size = 0 } ∷ record { kind = Datum; flags = 2; name = (Some (hex (codes "64 32"))); index = 0; offset = 4; size = 0 } ∷ record { kind = Function; flags = 1; name = (Some (hex (codes "66 33"))); index = 1; offset = 0; size = 0 } ∷ record { kind = Table; flags = 144; name = (Some (hex (codes "5F 5F 69 6E 64 69 72 65 63 74 5F 66 75 6E 63 74 69 6F 6E 5F 74 61 62 6C 65"))); index = 0; offset = 0; size = 0 } ∷ record { kind = Function; flags = 33; name = (Some (hex (codes "66 30"))); index = 2; offset = 0; size = 0 } ∷ record { kind = GlobalVar; flags = 21; name = (Some (hex (codes "67 30"))); index = 0; offset = 0; size = 0 } ∷ record { kind = Function; flags = 1; name = (Some (hex (codes "61 6C 69 61 73 35"))); index = 2; offset = 0; size = 0 } ∷ record { kind = Function; flags = 80; name = (Some (hex (codes "66 C3 A9 31"))); index = 0; offset = 0; size = 0 } ∷ []);
      inits = ([]);
      groups = ([]);
    }
    ∷ record {
      input = 3;
      types = ((record { params = ([]); results = ([]) }) ∷ (record { params = (F64 ∷ []); results = (F32 ∷ []) }) ∷ (record { params = (I32 ∷ []); results = (I32 ∷ []) }) ∷ []);
      imports = (record { «module» = (hex (codes "65 6E 76")); field = (hex (codes "5F 5F 69 6E 64 69 72 65 63 74 5F 66 75 6E 63 74 69 6F 6E 5F 74 61 62 6C 65")); kind = (kinds.Table (record { funcref = true; limits = (record { min = 0; max = None }) })) } ∷ record { «module» = (hex (codes "65 6E 76")); field = (hex (codes "66 32")); kind = (kinds.Function 0) } ∷ record { «module» = (hex (codes "6D")); field = (hex (codes "78")); kind = (kinds.Function 0) } ∷ record { «module» = (hex (codes "65 6E 76")); field = (hex (codes "5F 5F 73 74 61 63 6B 5F 70 6F 69 6E 74 65 72")); kind = (kinds.GlobalVar (record { kind = I32; var = true })) } ∷ record { «module» = (hex (codes "77 61 73 69")); field = (hex (codes "5F 73 74 61 72 74")); kind = (kinds.Function 0) } ∷ []);
      functions = (record { type_index = 1; span = (record { start = 135; len = 31 }); operands = (operands.Symbol 7 6 12 (pos 0) ∷ operands.Symbol 7 13 5 (pos 0) ∷ operands.Symbol 0 20 0 (pos 0) ∷ []); export_name = None } ∷ record { type_index = 0; span = (record { start = 167; len = 30 }); operands = (operands.Number ∷ operands.Symbol 3 9 4 (pos 1) ∷ operands.Symbol 7 16 7 (pos 0) ∷ operands.Symbol 4 23 11 (pos 0) ∷ []); export_name = None } ∷ record { type_index = 2; span = (record { start = 198; len = 7 }); operands = (operands.Number ∷ []); export_name = None } ∷ []);
      globals = (record { kind = (record { kind = I64; var = true }); value = (constants.I64 (negsuc 0)); span = (record { start = 125; len = 3 }) } ∷ []);
      segments = (record { span = (record { start = 213; len = 33 }); info = (record { name = (hex (codes "2E 72 6F 64 61 74 61 2E 78")); align = 2; flags = 0 }); windows = ([]) } ∷ record { span = (record { start = 251; len = 3 }); info = (record { name = (hex (codes "2E 64 61 74 61")); align = 0; flags = 1 }); windows = ([]) } ∷ []);
      symbols = (record { kind = Function; flags = 17; name = (Some (hex (codes "66 32"))); index = 0; offset = 0; size = 0 } ∷ record { kind = Function; flags = 80; name = (Some (hex (codes "5F 5F 77 61 73 6D 5F 63 61 6C 6C 5F 63 74 6F 72 73"))); index = 1; offset = 0; size = 0 } ∷ record { kind = Function; flags = 1; name = (Some (hex (codes "66 34"))); index = 5; offset = 0; size = 0 } ∷ record { kind = Function; flags = 130; name = (Some (hex (codes "6C 30"))); index = 3; offset = 0; size = 0 } ∷ record { kind = Datum; flags = 16; name = (Some (hex (codes "64 31"))); index = 0; offset = 0; size = 0 } ∷ record { kind = Datum; flags = 17; name = (Some (hex (codes "5F 5F 68 65 61 70 5F 62 61 73 65"))); index = 0; offset = 0; size = 0 } ∷ record { kind = Function; flags = 1; name = (Some (hex (codes "63 31"))); index = 4; offset = 0; size = 0 } ∷ record { kind = GlobalVar; flags = 0; name = (Some (hex (codes "67 30"))); index = 1; offset = 0; size = 0 } ∷ record { kind = Datum; flags = 16; name = (Some (hex (codes "64 30"))); index = 0; offset = 0; size = 0 } ∷ record { kind = GlobalVar; flags = 16; name = (Some (hex (codes "5F 5F 73 74 61 63 6B 5F 70 6F 69 6E 74 65 72"))); index = 0; offset = 0; size = 0 } ∷ record { kind = Table; flags = 144; name = (Some (hex (codes "5F 5F 69 6E 64 69 72 65 63 74 5F 66 75 6E 63 74 69 6F 6E 5F 74 61 62 6C 65"))); index = 0; offset = 0; size = 0 } ∷ record { kind = Datum; flags = 1; name = (Some (hex (codes "65 31"))); index = 0; offset = 20; size = 7 } ∷ record { kind = Function; flags = 81; name = (Some (hex (codes "5F 73 74 61 72 74"))); index = 2; offset = 0; size = 0 } ∷ record { kind = Datum; flags = 1; name = (Some (hex (codes "64 32"))); index = 1; offset = 0; size = 0 } ∷ []);
      inits = (record { priority = 100; symbol = 6 } ∷ []);
      groups = (record { name = (hex (codes "67 72 70 31")); members = (record { kind = 1; index = 4 } ∷ record { kind = 0; index = 0 } ∷ []) } ∷ []);
    }
    ∷ record {
      input = 4;
      types = ((record { params = ([]); results = ([]) }) ∷ (record { params = (I32 ∷ []); results = (I32 ∷ []) }) ∷ (record { params = ([]); results = (I64 ∷ I32 ∷ []) }) ∷ []);
      imports = (record { «module» = (hex (codes "65 6E 76")); field = (hex (codes "5F 5F 69 6E 64 69 72 65 63 74 5F 66 75 6E 63 74 69 6F 6E 5F 74 61 62 6C 65")); kind = (kinds.Table (record { funcref = true; limits = (record { min = 0; max = None }) })) } ∷ record { «module» = (hex (codes "6D")); field = (hex (codes "78")); kind = (kinds.Function 0) } ∷ record { «module» = (hex (codes "65 6E 76")); field = (hex (codes "66 34")); kind = (kinds.Function 1) } ∷ record { «module» = (hex (codes "6D")); field = (hex (codes "78")); kind = (kinds.GlobalVar (record { kind = I32; var = true })) } ∷ []);
      functions = (record { type_index = 0; span = (record { start = 107; len = 4 }); operands = ([]); export_name = None } ∷ record { type_index = 0; span = (record { start = 112; len = 34 }); operands = (operands.TypeRef 4 0 ∷ operands.Symbol 0 10 3 (pos 0) ∷ operands.Symbol 1 17 4 (pos 0) ∷ operands.Number ∷ operands.Symbol 3 27 6 (pos 4) ∷ []); export_name = None } ∷ record { type_index = 2; span = (record { start = 147; len = 21 }); operands = (operands.Symbol 0 6 0 (pos 0) ∷ operands.Number ∷ []); export_name = None } ∷ []);
      globals = ([]);
      segments = (record { span = (record { start = 176; len = 0 }); info = (record { name = (hex (codes "2E 62 73 73")); align = 2; flags = 1 }); windows = ([]) } ∷ []);
      symbols = (record { kind = Function; flags = 81; name = (Some (hex (codes "66 33"))); index = 0; offset = 0; size = 0 } ∷ record { kind = Table; flags = 16; name = (Some (hex (codes "5F 5F 69 6E 64 69 72 65 63 74 5F 66 75 6E 63 74 69 6F 6E 5F 74 61 62 6C 65"))); index = 0; offset = 0; size = 0 } ∷ record { kind = Function; flags = 16; name = (Some (hex (codes "66 34"))); index = 1; offset = 0; size = 0 } ∷ record { kind = Function; flags = 5; name = (Some (hex (codes "66 30"))); index = 3; offset = 0; size = 0 } ∷ record { kind = Function; flags = 1; name = (Some (hex (codes "66 32"))); index = 2; offset = 0; size = 0 } ∷ record { kind = Datum; flags = 17; name = (Some (hex (codes "64 30"))); index = 0; offset = 0; size = 0 } ∷ record { kind = Datum; flags = 4; name = (Some (hex (codes "64 33"))); index = 0; offset = 0; size = 0 } ∷ record { kind = Function; flags = 2; name = (Some (hex (codes "6C 30"))); index = 4; offset = 0; size = 0 } ∷ record { kind = GlobalVar; flags = 80; name = (Some (hex (codes "5F 5F 73 74 61 63 6B 5F 70 6F 69 6E 74 65 72"))); index = 0; offset = 0; size = 0 } ∷ []);
      inits = (record { priority = 100; symbol = 3 } ∷ []);
      groups = ([]);
    }
    ∷ []

abbrev pub ordered_files : List (List ℕ)
ordered_files = ((hex (codes "00 61 73 6D 01 00 00 00 00 01 00 01 0F 83 80 00 60 00 00 60 01 7C 01 7D 60 00 80 00 02 51 04 03 65 6E 76 0F 5F 5F 6C 69 6E 65 61 72 5F 6D 65 6D")
    ++ hex (codes "6F 72 79 02 00 00 03 65 6E 76 19 5F 5F 69 6E 64 69 72 65 63 74 5F 66 75 6E 63 74 69 6F 6E 5F 74 61 62 6C 65 01 70 00 00 04 77 61 73 69 02 66 30")
    ++ hex (codes "00 00 01 6D 84 80 80 80 00 66 C3 A9 31 00 01 03 05 04 00 00 02 00 0A 3C 04 22 00 10 80 80 80 80 00 44 00 00 00 00 00 00 00 00 10 80 80 80 80 00")
    ++ hex (codes "1A 03 40 23 80 80 80 80 00 1A 0B 0B 06 02 00 7C 01 7D 0B 06 02 01 7F 01 7E 0B 09 00 41 80 80 80 80 00 1A 0B 0B 1B 02 00 41 00 0B 0C 00 00 00 00")
    ++ hex (codes "00 FF 00 00 00 00 01 FF 00 41 00 0B 04 2A 01 FF 01 00 89 01 07 6C 69 6E 6B 69 6E 67 02 08 4B 0A 00 04 03 02 66 32 00 01 05 82 00 63 31 00 D0 80")
    ++ hex (codes "80 00 00 02 66 30 05 10 00 01 14 02 64 32 00 00 02 06 5F 73 74 61 72 74 00 50 01 04 66 C3 A9 31 01 02 02 64 33 00 01 02 01 01 02 65 31 81 00 01")
    ++ hex (codes "02 01 80 00 02 64 31 00 03 05 05 14 02 05 2E 64 61 74 61 01 80 80 80 80 00 04 2E 62 73 73 00 00 06 0B 03 FF FF 03 00 00 01 FF FF 03 02 07 0E 01")
    ++ hex (codes "04 67 72 70 31 00 03 01 05 00 01 05 00 00 1B 0A 72 65 6C 6F 63 2E 43 4F 44 45 04 04 00 04 00 00 13 06 07 1C 00 04 35 09 E4 00 00 98 80 00 8A 80")
    ++ hex (codes "80 80 00 72 65 6C 6F 63 2E 44 41 54 41 05 02 02 06 05 05 0C 07 04 00 11 0F 74 61 72 67 65 74 5F 66 65 61 74 75 72 65 73 00")) ∷ (hex (codes "00 61 73 6D 01 00 00 00 01 09 02 60 00 00 60 01 7C 01 7D 02 38 03 83 80 00 65 6E 76 19 5F 5F 69 6E 64 69 72 65 63 74 5F 66 75 6E 63 74 69 6F 6E")
    ++ hex (codes "5F 74 61 62 6C 65 01 70 00 00 03 65 6E 76 02 67 30 03 7E 01 01 6D 04 66 C3 A9 31 00 01 03 03 02 00 00 07 10 02 06 6D 65 6D 6F 72 79 00 01 03 65")
    ++ hex (codes "78 36 00 01 00 03 01 78 FF 0A 2F 02 06 02 00 7C 01 7D 0B A3 80 80 00 02 00 7C 01 7D 23 80 80 80 80 00 1A 44 00 00 00 00 00 00 00 00 10 80 80 80")
    ++ hex (codes "80 00 1A 10 80 80 80 80 00 0B 0B 0A 01 00 41 00 0B 04 00 00 00 00 00 07 04 6E 61 6D 65 00 01 00 41 07 6C 69 6E 6B 69 6E 67 82 00 08 35 08 01 11")
    ++ hex (codes "02 64 30 01 02 02 64 32 00 04 00 00 01 01 02 66 33 05 90 01 00 00 A1 80 00 02 02 66 30 02 15 00 00 01 02 06 61 6C 69 61 73 35 00 50 00 04 66 C3")
    ++ hex (codes "A9 31 00 19 0A 72 65 6C 6F 63 2E 43 4F 44 45 05 83 80 80 00 07 12 05 00 22 07 00 29 06")) ∷ (hex (codes "00 61 73 6D 01 00 00 00 01 0F 03 60 00 00 60 01 7C 81 00 7D 60 01 7F 01 7F 02 57 05 03 65 6E 76 19 5F 5F 69 6E 64 69 72 65 63 74 5F 66 75 6E 63")
    ++ hex (codes "74 69 6F 6E 5F 74 61 62 6C 65 01 70 00 00 03 65 6E 76 02 66 32 00 00 01 6D 01 78 00 00 03 65 6E 76 0F 5F 5F 73 74 61 63 6B 5F 70 6F 69 6E 74 65")
    ++ hex (codes "72 03 7F 01 04 77 61 73 69 06 5F 73 74 61 72 74 00 00 03 04 03 01 00 02 06 06 01 7E 01 42 7F 0B 0C 01 02 0A 48 03 1F 02 01 7F 01 7E 23 80 80 80")
    ++ hex (codes "80 00 1A 23 80 80 80 80 00 1A 10 80 80 80 80 00 43 00 00 80 3F 0B 1E 02 01 7F 01 7E 41 00 2C 00 80 80 80 80 00 1A 23 80 80 80 80 00 1A 41 80 80")
    ++ hex (codes "80 80 00 1A 0B 07 01 02 7F 41 E8 07 0B 0B 2F 02 00 41 00 0B 21 00 00 00 00 00 00 00 00 00 00 00 00 00 00 00 00 00 00 00 00 00 00 00 00 00 00 00")
    ++ hex (codes "00 00 00 00 00 00 00 41 00 0B 03 00 00 00 00 AB 81 80 80 00 07 6C 69 6E 6B 69 6E 67 02 08 76 0E 00 11 80 80 80 80 00 00 50 01 11 5F 5F 77 61 73")
    ++ hex (codes "6D 5F 63 61 6C 6C 5F 63 74 6F 72 73 00 01 05 02 66 34 00 82 01 03 02 6C 30 01 10 02 64 31 01 11 0B 5F 5F 68 65 61 70 5F 62 61 73 65 00 01 04 02")
    ++ hex (codes "63 31 02 00 01 02 67 30 01 10 02 64 30 02 90 80 80 80 00 00 05 90 01 80 80 80 00 01 01 02 65 31 00 14 07 00 51 02 06 5F 73 74 61 72 74 01 01 02")
    ++ hex (codes "64 32 01 00 00 05 15 02 09 2E 72 6F 64 61 74 61 2E 78 02 00 05 2E 64 61 74 61 00 01 06 03 01 64 06 07 0C 01 04 67 72 70 31 00 02 01 04 00 00 00")
    ++ hex (codes "25 0A 72 65 6C 6F 63 2E 43 4F 44 45 05 06 07 08 0C 07 0F 05 00 16 00 03 2B 04 01 07 B2 80 80 80 00 07 04 39 0B 00")) ∷ (hex (codes "00 61 73 6D 01 00 00 00 01 0E 03 60 00 00 60 01 7F 01 7F 60 00 02 7E 7F 02 39 04 03 65 6E 76 19 5F 5F 69 6E 64 69 72 65 63 74 5F 66 75 6E 63 74")
    ++ hex (codes "69 6F 6E 5F 74 61 62 6C 65 01 70 00 00 01 6D 01 78 00 00 03 65 6E 76 02 66 34 00 01 01 6D 01 78 03 7F 01 03 04 03 00 00 02 09 09 01 00 41 01 0B")
    ++ hex (codes "03 02 03 04 0C 01 01 0A 3F 03 04 01 02 7F 0B 22 01 02 7F 03 80 80 80 80 00 10 80 80 80 80 00 0B 41 80 80 80 80 00 1A 41 00 28 02 80 80 80 80 00")
    ++ hex (codes "1A 0B 15 02 01 7F 01 7E 10 80 80 80 80 00 42 80 80 80 80 80 20 41 7F 0B 0B 06 01 00 41 00 0B 00 00 59 07 6C 69 6E 6B 69 6E 67 02 08 3F 09 00 51")
    ++ hex (codes "00 02 66 33 05 10 00 00 10 01 00 05 03 02 66 30 00 01 02 02 66 32 01 11 02 64 30 01 04 02 64 33 00 00 00 00 02 04 02 6C 30 02 50 00 0F 5F 5F 73")
    ++ hex (codes "74 61 63 6B 5F 70 6F 69 6E 74 65 72 05 08 01 04 2E 62 73 73 02 01 06 03 01 64 03 00 1D 0A 72 65 6C 6F 63 2E 43 4F 44 45 05 05 06 0B 00 00 11 03")
    ++ hex (codes "01 18 04 03 22 06 04 00 30 00")) ∷ [])

abbrev pub ordered_made : List ℕ
ordered_made = (hex (codes "00 61 73 6D 01 00 00 00 01 13 04 60 01 7C 01 7D 60 00 00 60 01 7F 01 7F 60 00 02 7E 7F 02 50 05 03 65 6E 76 0F 5F 5F 6C 69 6E 65 61 72 5F 6D 65")
    ++ hex (codes "6D 6F 72 79 02 00 00 03 65 6E 76 19 5F 5F 69 6E 64 69 72 65 63 74 5F 66 75 6E 63 74 69 6F 6E 5F 74 61 62 6C 65 01 70 00 00 01 6D 04 66 C3 A9 31")
    ++ hex (codes "00 00 01 6D 01 78 00 01 01 6D 01 78 03 7F 01 03 0C 0B 01 01 01 01 01 01 00 02 01 01 03 06 06 01 7E 01 42 7F 0B 07 07 01 03 65 78 36 00 06 0A CD")
    ++ hex (codes "01 0B 22 00 10 80 80 80 80 00 44 00 00 00 00 00 00 00 00 10 80 80 80 80 00 1A 03 40 23 80 80 80 80 00 1A 0B 0B 06 02 00 7C 01 7D 0B 06 02 01 7F")
    ++ hex (codes "01 7E 0B 09 00 41 80 80 80 80 00 1A 0B 06 02 00 7C 01 7D 0B 23 02 00 7C 01 7D 23 80 80 80 80 00 1A 44 00 00 00 00 00 00 00 00 10 80 80 80 80 00")
    ++ hex (codes "1A 10 80 80 80 80 00 0B 1F 02 01 7F 01 7E 23 80 80 80 80 00 1A 23 80 80 80 80 00 1A 10 80 80 80 80 00 43 00 00 80 3F 0B 07 01 02 7F 41 E8 07 0B")
    ++ hex (codes "04 01 02 7F 0B 22 01 02 7F 03 80 80 80 80 00 10 80 80 80 80 00 0B 41 80 80 80 80 00 1A 41 00 28 02 80 80 80 80 00 1A 0B 15 02 01 7F 01 7E 10 80")
    ++ hex (codes "80 80 80 00 42 80 80 80 80 80 20 41 7F 0B 0B 31 05 00 41 00 0B 0C 00 00 00 00 00 FF 00 00 00 00 01 FF 00 41 00 0B 04 2A 01 FF 01 00 41 00 0B 04")
    ++ hex (codes "00 00 00 00 00 41 00 0B 03 00 00 00 00 41 00 0B 00 00 89 02 07 6C 69 6E 6B 69 6E 67 02 08 BC 01 16 00 04 03 02 66 32 00 01 05 02 63 31 05 10 00")
    ++ hex (codes "00 00 02 06 5F 73 74 61 72 74 00 50 00 04 66 C3 A9 31 01 02 02 64 33 00 01 02 01 01 02 65 31 01 01 02 01 00 02 64 31 00 03 05 01 10 02 64 30 01")
    ++ hex (codes "02 02 64 32 02 04 00 00 01 06 02 66 33 00 21 07 02 66 30 00 01 07 06 61 6C 69 61 73 35 00 50 01 11 5F 5F 77 61 73 6D 5F 63 61 6C 6C 5F 63 74 6F")
    ++ hex (codes "72 73 00 01 09 02 66 34 00 82 01 08 02 6C 30 01 11 0B 5F 5F 68 65 61 70 5F 62 61 73 65 02 00 01 02 67 30 02 50 00 0F 5F 5F 73 74 61 63 6B 5F 70")
    ++ hex (codes "6F 69 6E 74 65 72 01 01 02 64 32 03 00 00 01 04 02 64 33 04 00 00 00 02 0C 02 6C 30 05 22 05 05 2E 64 61 74 61 01 00 04 2E 62 73 73 00 00 00 00")
    ++ hex (codes "00 05 2E 64 61 74 61 00 01 04 2E 62 73 73 02 01 06 0D 04 FF FF 03 00 00 01 FF FF 03 0B 64 0B 07 0C 01 04 67 72 70 31 00 02 01 05 00 01 00 42 0A")
    ++ hex (codes "72 65 6C 6F 63 2E 43 4F 44 45 05 0F 00 04 00 00 13 04 07 1C 00 04 35 07 E4 00 07 4A 11 00 5A 04 00 61 0C 07 6E 03 07 75 10 00 7C 00 06 99 01 01")
    ++ hex (codes "00 9F 01 0B 01 A6 01 00 03 B0 01 14 04 00 BE 01 0A 00 14 0A 72 65 6C 6F 63 2E 44 41 54 41 06 02 02 06 03 05 0C 05 04"))
