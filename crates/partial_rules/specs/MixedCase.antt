-- Two objects with something of everything that an object can have.
use Rattle.std.specs.Prelude.{ℕ, true, List, [], ◌∷◌, ◌++◌, Some, None, codes, pos, negsuc}
use Rattle.object_file.specs.wasm_types.declared.value.ValType.TheVariants.{I32, I64, F32, F64}
use Rattle.object_file.specs.wasm_types.declared.import.ImportKind.TheVariants as kinds
use Rattle.object_file.specs.wasm_types.declared.const_expr.ConstExpr.TheVariants as constants
use Rattle.object_file.specs.linking_section.declared.symbol.SymbolKind.TheVariants.{Function, Datum, GlobalVar, Section, Table}
use Rattle.object_file.specs.body_windows.declared.operand.Operand.TheVariants as operands
use Rattle.object_file.specs.declared.object.Object.{Object}
use Rattle.link_rules.specs.Examples.{hex}

-- The objects, and their files.
abbrev pub mixed_objects : List Object
mixed_objects = record {
  input = 1;
  types = ((record { params = ([]); results = (I32 ∷ []) }) ∷ (record { params = (F64 ∷ []); results = (F32 ∷ []) }) ∷ (record { params = ([]); results = (I64 ∷ I32 ∷ []) }) ∷ (record { params = ([]); results = ([]) }) ∷ (record { params = (I64 ∷ I64 ∷ []); results = (I64 ∷ []) }) ∷ []);
  imports = (record { «module» = (hex (codes "65 6E 76")); field = (hex (codes "5F 5F 6C 69 6E 65 61 72 5F 6D 65 6D 6F 72 79")); kind = (kinds.Memory (record { min = 0; max = None })) } ∷ record { «module» = (hex (codes "77 61 73 69")); field = (hex (codes "79")); kind = (kinds.GlobalVar (record { kind = I32; var = true })) } ∷ record { «module» = (hex (codes "65 6E 76")); field = (hex (codes "79")); kind = (kinds.GlobalVar (record { kind = I32; var = true })) } ∷ []);
  functions = (record { type_index = 0; span = (record { start = 103; len = 13 }); operands = (operands.Symbol 0 4 5 (pos 0) ∷ operands.Number ∷ []); export_name = None } ∷ record { type_index = 1; span = (record { start = 117; len = 9 }); operands = ([]); export_name = None } ∷ record { type_index = 1; span = (record { start = 127; len = 29 }); operands = (operands.Symbol 1 2 6 (pos 0) ∷ operands.Number ∷ operands.Number ∷ operands.Number ∷ operands.Symbol 1 15 0 (pos 0) ∷ []); export_name = (Some (hex (codes "65 78 32"))) } ∷ record { type_index = 0; span = (record { start = 157; len = 65 }); operands = (operands.Number ∷ operands.TypeRef 4 3 ∷ operands.TypeRef 10 2 ∷ operands.Symbol 0 25 0 (pos 0) ∷ operands.Number ∷ operands.Symbol 7 49 1 (pos 0) ∷ operands.Symbol 0 56 4 (pos 0) ∷ operands.Number ∷ []); export_name = None } ∷ record { type_index = 3; span = (record { start = 223; len = 2 }); operands = ([]); export_name = None } ∷ record { type_index = 3; span = (record { start = 226; len = 18 }); operands = (operands.Number ∷ operands.TypeRef 10 4 ∷ operands.TableZero ∷ []); export_name = None } ∷ record { type_index = 3; span = (record { start = 245; len = 10 }); operands = (operands.Symbol 0 4 6 (pos 0) ∷ []); export_name = None } ∷ []);
  globals = ([]);
  segments = (record { span = (record { start = 263; len = 8 }); info = (record { name = (hex (codes "2E 72 6F 64 61 74 61 2E 78")); align = 2; flags = 0 }); windows = (record { kind = 5; offset = 1; index = 7; addend = (pos 0) } ∷ []) } ∷ record { span = (record { start = 276; len = 3 }); info = (record { name = (hex (codes "2E 72 6F 64 61 74 61 2E 78")); align = 0; flags = 0 }); windows = ([]) } ∷ []);
  symbols = (record { kind = Function; flags = 0; name = (Some (hex (codes "66 33"))); index = 2; offset = 0; size = 0 } ∷ record { kind = GlobalVar; flags = 80; name = (Some (hex (codes "67 30"))); index = 0; offset = 0; size = 0 } ∷ record { kind = Function; flags = 0; name = (Some (hex (codes "66 30"))); index = 6; offset = 0; size = 0 } ∷ record { kind = Datum; flags = 4; name = (Some (hex (codes "64 30"))); index = 1; offset = 2; size = 1 } ∷ record { kind = Function; flags = 1; name = (Some (hex (codes "63 30"))); index = 0; offset = 0; size = 0 } ∷ record { kind = Function; flags = 2; name = (Some (hex (codes "69 6E 30"))); index = 4; offset = 0; size = 0 } ∷ record { kind = Function; flags = 1; name = (Some (hex (codes "63 32"))); index = 5; offset = 0; size = 0 } ∷ record { kind = Datum; flags = 1; name = (Some (hex (codes "65 30"))); index = 0; offset = 6; size = 1 } ∷ record { kind = Function; flags = 33; name = (Some (hex (codes "66 34"))); index = 3; offset = 0; size = 0 } ∷ record { kind = GlobalVar; flags = 80; name = (Some (hex (codes "5F 5F 73 74 61 63 6B 5F 70 6F 69 6E 74 65 72"))); index = 1; offset = 0; size = 0 } ∷ record { kind = Function; flags = 4; name = (Some (hex (codes "66 31"))); index = 1; offset = 0; size = 0 } ∷ []);
  inits = (record { priority = 200; symbol = 2 } ∷ record { priority = 65535; symbol = 6 } ∷ []);
  groups = (record { name = (hex (codes "67 72 70 30")); members = (record { kind = 1; index = 0 } ∷ record { kind = 0; index = 0 } ∷ record { kind = 1; index = 4 } ∷ []) } ∷ record { name = (hex (codes "67 72 70 32")); members = (record { kind = 1; index = 5 } ∷ []) } ∷ []);
}
    ∷ record {
      input = 2;
      types = ((record { params = ([]); results = ([]) }) ∷ (record { params = (I32 ∷ []); results = (I32 ∷ []) }) ∷ (record { params = ([]); results = (I32 ∷ []) }) ∷ []);
      imports = (record { «module» = (hex (codes "65 6E 76")); field = (hex (codes "5F 5F 6C 69 6E 65 61 72 5F 6D 65 6D 6F 72 79")); kind = (kinds.Memory (record { min = 0; max = None })) } ∷ record { «module» = (hex (codes "65 6E 76")); field = (hex (codes "5F 5F 69 6E 64 69 72 65 63 74 5F 66 75 6E 63 74 69 6F 6E 5F 74 61 62 6C 65")); kind = (kinds.Table (record { funcref = true; limits = (record { min = 0; max = None }) })) } ∷ record { «module» = (hex (codes "77 61 73 69")); field = (hex (codes "66 30")); kind = (kinds.Function 0) } ∷ record { «module» = (hex (codes "77 61 73 69")); field = (hex (codes "79")); kind = (kinds.Function 1) } ∷ record { «module» = (hex (codes "65 6E 76")); field = (hex (codes "66 34")); kind = (kinds.Function 2) } ∷ record { «module» = (hex (codes "6D")); field = (hex (codes "79")); kind = (kinds.Function 0) } ∷ []);
      functions = (record { type_index = 2; span = (record { start = 164; len = 19 }); operands = (operands.Symbol 4 2 4 (pos 100) ∷ operands.Symbol 0 9 7 (pos 0) ∷ operands.Number ∷ []); export_name = (Some (hex (codes "65 78 36"))) } ∷ record { type_index = 0; span = (record { start = 184; len = 34 }); operands = (operands.Symbol 4 4 4 (pos 0) ∷ operands.Number ∷ operands.Symbol 3 14 9 (pos 4) ∷ operands.Number ∷ operands.TypeRef 23 0 ∷ operands.Symbol 20 28 10 (pos 0) ∷ []); export_name = None } ∷ []);
      globals = (record { kind = (record { kind = I32; var = true }); value = (constants.I32 (negsuc 0)); span = (record { start = 130; len = 3 }) } ∷ []);
      segments = (record { span = (record { start = 226; len = 8 }); info = (record { name = []; align = 0; flags = 0 }); windows = (record { kind = 5; offset = 3; index = 5; addend = (pos 0) } ∷ []) } ∷ record { span = (record { start = 239; len = 12 }); info = (record { name = []; align = 2; flags = 5 }); windows = ([]) } ∷ []);
      symbols = (record { kind = Function; flags = 80; name = (Some (hex (codes "66 30"))); index = 0; offset = 0; size = 0 } ∷ record { kind = Function; flags = 80; name = (Some (hex (codes "66 32"))); index = 1; offset = 0; size = 0 } ∷ record { kind = Function; flags = 16; name = (Some (hex (codes "66 34"))); index = 2; offset = 0; size = 0 } ∷ record { kind = Function; flags = 81; name = (Some (hex (codes "5F 73 74 61 72 74"))); index = 3; offset = 0; size = 0 } ∷ record { kind = Datum; flags = 5; name = (Some (hex (codes "64 30"))); index = 0; offset = 4; size = 0 } ∷ record { kind = Datum; flags = 17; name = (Some (hex (codes "64 31"))); index = 0; offset = 0; size = 0 } ∷ record { kind = GlobalVar; flags = 5; name = (Some (hex (codes "67 30"))); index = 0; offset = 0; size = 0 } ∷ record { kind = Function; flags = 2; name = (Some (hex (codes "6C 32"))); index = 4; offset = 0; size = 0 } ∷ record { kind = Function; flags = 1; name = (Some (hex (codes "63 32"))); index = 5; offset = 0; size = 0 } ∷ record { kind = Datum; flags = 1; name = (Some (hex (codes "65 32"))); index = 1; offset = 9; size = 3 } ∷ record { kind = Table; flags = 16; name = (Some (hex (codes "5F 5F 69 6E 64 69 72 65 63 74 5F 66 75 6E 63 74 69 6F 6E 5F 74 61 62 6C 65"))); index = 0; offset = 0; size = 0 } ∷ record { kind = Section; flags = 2; name = None; index = 11; offset = 0; size = 0 } ∷ record { kind = Section; flags = 2; name = None; index = 13; offset = 0; size = 0 } ∷ record { kind = Section; flags = 2; name = None; index = 0; offset = 0; size = 0 } ∷ []);
      inits = ([]);
      groups = (record { name = (hex (codes "67 72 70 32")); members = (record { kind = 1; index = 5 } ∷ record { kind = 0; index = 1 } ∷ []) } ∷ []);
    }
    ∷ []

abbrev pub mixed_files : List (List ℕ)
mixed_files = ((hex (codes "00 61 73 6D 01 00 00 00 01 18 05 60 00 01 7F 60 01 7C 01 7D 60 00 02 7E 7F 60 00 00 60 02 7E 7E 01 7E 02 2B 03 03 65 6E 76 0F 5F 5F 6C 69 6E 65")
    ++ hex (codes "61 72 5F 6D 65 6D 6F 72 79 02 00 00 04 77 61 73 69 01 79 03 7F 01 03 65 6E 76 01 79 03 7F 01 03 08 07 00 01 01 00 03 03 03 07 07 01 03 65 78 32")
    ++ hex (codes "00 02 0A 9A 01 07 0D 01 02 7F 10 80 80 80 80 00 41 C0 00 0B 09 01 02 7F 43 00 00 80 3F 0B 1D 00 41 80 80 80 80 00 1A 03 40 41 01 04 40 41 80 80")
    ++ hex (codes "80 80 00 1A 0B 0B 43 00 00 80 3F 0B 41 00 41 01 04 80 80 80 80 00 03 80 80 80 80 00 44 00 00 00 00 00 00 00 00 10 80 80 80 80 00 1A 42 80 80 80")
    ++ hex (codes "80 80 20 41 80 80 80 80 78 0B 1A 1A 0B 23 80 80 80 80 00 1A 10 80 80 80 80 00 1A 41 00 0B 02 00 0B 12 01 02 7F 42 05 42 00 41 00 11 80 80 80 80")
    ++ hex (codes "00 00 1A 0B 0A 01 02 7F 10 80 80 80 80 00 0B 0B 16 02 00 41 00 0B 08 2A FF FF FF FF FF 2A 2A 00 41 00 0B 03 00 00 00 00 9E 01 07 6C 69 6E 6B 69")
    ++ hex (codes "6E 67 02 08 55 0B 00 00 02 02 66 33 02 50 00 02 67 30 00 00 06 02 66 30 01 04 02 64 30 01 02 01 00 01 00 02 63 30 00 02 04 03 69 6E 30 00 01 05")
    ++ hex (codes "02 63 32 01 01 02 65 30 00 06 01 00 21 03 02 66 34 02 50 01 0F 5F 5F 73 74 61 63 6B 5F 70 6F 69 6E 74 65 72 00 04 01 02 66 31 05 19 02 09 2E 72")
    ++ hex (codes "6F 64 61 74 61 2E 78 02 00 09 2E 72 6F 64 61 74 61 2E 78 00 00 06 08 02 C8 01 02 FF FF 03 06 07 17 02 04 67 72 70 30 00 03 01 00 00 00 01 04 04")
    ++ hex (codes "67 72 70 32 00 01 01 05 00 2D 0A 72 65 6C 6F 63 2E 43 4F 44 45 04 0A 00 06 05 01 1C 06 01 29 00 06 3C 03 06 42 02 00 51 00 07 69 01 00 70 04 06")
    ++ hex (codes "87 01 04 00 94 01 06 00 11 0A 72 65 6C 6F 63 2E 44 41 54 41 05 01 05 07 07 00 00 11 0F 74 61 72 67 65 74 5F 66 65 61 74 75 72 65 73 00")) ∷ (hex (codes "00 61 73 6D 01 00 00 00 01 0D 03 60 00 00 60 01 7F 01 7F 60 00 01 7F 02 5F 86 80 80 00 03 65 6E 76 0F 5F 5F 6C 69 6E 65 61 72 5F 6D 65 6D 6F 72")
    ++ hex (codes "79 02 00 00 03 65 6E 76 19 5F 5F 69 6E 64 69 72 65 63 74 5F 66 75 6E 63 74 69 6F 6E 5F 74 61 62 6C 65 01 70 00 00 04 77 61 73 69 02 66 30 00 00")
    ++ hex (codes "04 77 61 73 69 01 79 00 01 03 65 6E 76 02 66 34 00 02 01 6D 01 79 00 00 03 03 02 02 00 06 06 01 7F 01 41 7F 0B 07 8D 80 00 02 03 65 78 32 00 04")
    ++ hex (codes "03 65 78 36 00 04 09 08 01 00 41 01 0B 02 04 05 0A 38 02 13 00 41 80 80 80 80 00 1A 10 80 80 80 80 00 1A 41 E8 07 0B 22 01 02 7F 41 80 80 80 80")
    ++ hex (codes "00 1A 41 00 2A 00 80 80 80 80 00 1A 41 00 11 80 80 80 80 00 80 80 80 80 00 0B 0B 1F 02 00 41 00 0B 08 FF 00 00 FF FF FF FF 01 00 41 00 0B 0C 00")
    ++ hex (codes "00 00 00 00 00 00 00 00 00 00 00 00 77 07 6C 69 6E 6B 69 6E 67 02 08 52 0E 00 50 00 02 66 30 00 50 01 02 66 32 00 10 02 00 51 03 06 5F 73 74 61")
    ++ hex (codes "72 74 01 85 00 02 64 30 80 00 84 80 80 00 00 01 11 02 64 31 02 05 00 02 67 30 00 02 04 02 6C 32 00 01 05 02 63 32 01 01 02 65 32 01 09 03 05 10")
    ++ hex (codes "00 03 02 0B 03 02 0D 03 02 00 07 0D 01 04 67 72 70 32 00 82 00 01 05 00 01 05 09 82 80 00 00 00 00 00 02 05 00 27 0A 72 65 6C 6F 63 2E 43 4F 44")
    ++ hex (codes "45 06 06 04 04 04 E4 00 00 0B 07 04 1A 84 80 80 80 00 00 03 24 09 04 06 2D 00 14 32 0A 00 11 0A 72 65 6C 6F 63 2E 44 41 54 41 07 01 05 09 05 00")
    ++ hex (codes "00 18 08 2E 64 65 62 75 67 5F 78 EE 00 EE 00 EE 00 00 00 00 EE EE EE 00 00 EE 00 24 0E 72 65 6C 6F 63 2E 2E 64 65 62 75 67 5F 78 0B 03 05 01 89")
    ++ hex (codes "80 80 80 00 00 05 87 80 80 00 05 01 09 0B 0C 00 00 12 0B 2E 64 65 62 75 67 5F 6C 69 6E 65 EE 00 00 00 EE 00 00 17 11 72 65 6C 6F 63 2E 2E 64 65")
    ++ hex (codes "62 75 67 5F 6C 69 6E 65 0D 01 02 00 02")) ∷ [])

abbrev pub mixed_made : List ℕ
mixed_made = (hex (codes "00 61 73 6D 01 00 00 00 01 1D 06 60 01 7F 01 7F 60 00 00 60 00 01 7F 60 01 7C 01 7D 60 00 02 7E 7F 60 02 7E 7E 01 7E 02 52 05 03 65 6E 76 0F 5F")
    ++ hex (codes "5F 6C 69 6E 65 61 72 5F 6D 65 6D 6F 72 79 02 00 00 03 65 6E 76 01 79 03 7F 01 04 77 61 73 69 01 79 00 00 01 6D 01 79 00 01 03 65 6E 76 19 5F 5F")
    ++ hex (codes "69 6E 64 69 72 65 63 74 5F 66 75 6E 63 74 69 6F 6E 5F 74 61 62 6C 65 01 70 00 00 03 09 08 02 03 03 02 01 01 01 02 06 06 01 7F 01 41 7F 0B 07 0D")
    ++ hex (codes "02 03 65 78 32 00 04 03 65 78 36 00 09 0A AE 01 08 0D 01 02 7F 10 80 80 80 80 00 41 C0 00 0B 09 01 02 7F 43 00 00 80 3F 0B 1D 00 41 80 80 80 80")
    ++ hex (codes "00 1A 03 40 41 01 04 40 41 80 80 80 80 00 1A 0B 0B 43 00 00 80 3F 0B 41 00 41 01 04 80 80 80 80 00 03 80 80 80 80 00 44 00 00 00 00 00 00 00 00")
    ++ hex (codes "10 80 80 80 80 00 1A 42 80 80 80 80 80 20 41 80 80 80 80 78 0B 1A 1A 0B 23 80 80 80 80 00 1A 10 80 80 80 80 00 1A 41 00 0B 02 00 0B 12 01 02 7F")
    ++ hex (codes "42 05 42 00 41 00 11 80 80 80 80 00 00 1A 0B 0A 01 02 7F 10 80 80 80 80 00 0B 13 00 41 80 80 80 80 00 1A 10 80 80 80 80 00 1A 41 E8 07 0B 0B 23")
    ++ hex (codes "03 00 41 00 0B 08 2A 00 00 00 00 FF 2A 2A 00 41 00 0B 03 00 00 00 00 41 00 0B 08 FF 00 00 00 00 00 00 01 00 C4 01 07 6C 69 6E 6B 69 6E 67 02 08")
    ++ hex (codes "78 11 00 00 04 02 66 33 00 00 08 02 66 30 01 04 02 64 30 01 02 01 00 01 02 02 63 30 00 02 06 03 69 6E 30 00 01 07 02 63 32 01 01 02 65 30 00 06")
    ++ hex (codes "01 00 21 05 02 66 34 02 50 00 0F 5F 5F 73 74 61 63 6B 5F 70 6F 69 6E 74 65 72 00 04 03 02 66 31 00 50 00 02 66 32 00 51 01 06 5F 73 74 61 72 74")
    ++ hex (codes "01 11 02 64 31 02 05 01 02 67 30 00 02 09 02 6C 32 01 11 02 65 32 05 10 00 05 1C 03 09 2E 72 6F 64 61 74 61 2E 78 02 00 09 2E 72 6F 64 61 74 61")
    ++ hex (codes "2E 78 00 00 00 00 00 06 08 02 C8 01 01 FF FF 03 05 07 17 02 04 67 72 70 30 00 03 01 02 00 00 01 06 04 67 72 70 32 00 01 01 07 00 37 0A 72 65 6C")
    ++ hex (codes "6F 63 2E 43 4F 44 45 05 0C 00 06 04 01 1C 05 01 29 00 06 3C 01 06 42 04 00 51 00 07 69 0D 00 70 03 06 87 01 05 00 94 01 05 04 9D 01 02 E4 00 00")
    ++ hex (codes "A4 01 0E 00 15 0A 72 65 6C 6F 63 2E 44 41 54 41 06 02 05 07 06 00 05 1E 0C 00"))

-- The made bytes as an object, as the reader gives them, and the output of both links.
abbrev pub mixed_read : Object
mixed_read = record {
  input = 1;
  types = ((record { params = (I32 ∷ []); results = (I32 ∷ []) }) ∷ (record { params = ([]); results = ([]) }) ∷ (record { params = ([]); results = (I32 ∷ []) }) ∷ (record { params = (F64 ∷ []); results = (F32 ∷ []) }) ∷ (record { params = ([]); results = (I64 ∷ I32 ∷ []) }) ∷ (record { params = (I64 ∷ I64 ∷ []); results = (I64 ∷ []) }) ∷ []);
  imports = (record { «module» = (hex (codes "65 6E 76")); field = (hex (codes "5F 5F 6C 69 6E 65 61 72 5F 6D 65 6D 6F 72 79")); kind = (kinds.Memory (record { min = 0; max = None })) } ∷ record { «module» = (hex (codes "65 6E 76")); field = (hex (codes "79")); kind = (kinds.GlobalVar (record { kind = I32; var = true })) } ∷ record { «module» = (hex (codes "77 61 73 69")); field = (hex (codes "79")); kind = (kinds.Function 0) } ∷ record { «module» = (hex (codes "6D")); field = (hex (codes "79")); kind = (kinds.Function 1) } ∷ record { «module» = (hex (codes "65 6E 76")); field = (hex (codes "5F 5F 69 6E 64 69 72 65 63 74 5F 66 75 6E 63 74 69 6F 6E 5F 74 61 62 6C 65")); kind = (kinds.Table (record { funcref = true; limits = (record { min = 0; max = None }) })) } ∷ []);
  functions = (record { type_index = 2; span = (record { start = 162; len = 13 }); operands = (operands.Symbol 0 4 4 (pos 0) ∷ operands.Number ∷ []); export_name = None } ∷ record { type_index = 3; span = (record { start = 176; len = 9 }); operands = ([]); export_name = None } ∷ record { type_index = 3; span = (record { start = 186; len = 29 }); operands = (operands.Symbol 1 2 5 (pos 0) ∷ operands.Number ∷ operands.Number ∷ operands.Number ∷ operands.Symbol 1 15 0 (pos 0) ∷ []); export_name = (Some (hex (codes "65 78 32"))) } ∷ record { type_index = 2; span = (record { start = 216; len = 65 }); operands = (operands.Number ∷ operands.TypeRef 4 1 ∷ operands.TypeRef 10 4 ∷ operands.Symbol 0 25 0 (pos 0) ∷ operands.Number ∷ operands.Symbol 7 49 13 (pos 0) ∷ operands.Symbol 0 56 3 (pos 0) ∷ operands.Number ∷ []); export_name = None } ∷ record { type_index = 1; span = (record { start = 282; len = 2 }); operands = ([]); export_name = None } ∷ record { type_index = 1; span = (record { start = 285; len = 18 }); operands = (operands.Number ∷ operands.TypeRef 10 5 ∷ operands.TableZero ∷ []); export_name = None } ∷ record { type_index = 1; span = (record { start = 304; len = 10 }); operands = (operands.Symbol 0 4 5 (pos 0) ∷ []); export_name = None } ∷ record { type_index = 2; span = (record { start = 315; len = 19 }); operands = (operands.Symbol 4 2 2 (pos 100) ∷ operands.Symbol 0 9 14 (pos 0) ∷ operands.Number ∷ []); export_name = (Some (hex (codes "65 78 36"))) } ∷ []);
  globals = (record { kind = (record { kind = I32; var = true }); value = (constants.I32 (negsuc 0)); span = (record { start = 139; len = 3 }) } ∷ []);
  segments = (record { span = (record { start = 342; len = 8 }); info = (record { name = (hex (codes "2E 72 6F 64 61 74 61 2E 78")); align = 2; flags = 0 }); windows = (record { kind = 5; offset = 1; index = 6; addend = (pos 0) } ∷ []) } ∷ record { span = (record { start = 355; len = 3 }); info = (record { name = (hex (codes "2E 72 6F 64 61 74 61 2E 78")); align = 0; flags = 0 }); windows = ([]) } ∷ record { span = (record { start = 363; len = 8 }); info = (record { name = []; align = 0; flags = 0 }); windows = (record { kind = 5; offset = 3; index = 12; addend = (pos 0) } ∷ []) } ∷ []);
  symbols = (record { kind = Function; flags = 0; name = (Some (hex (codes "66 33"))); index = 4; offset = 0; size = 0 } ∷ record { kind = Function; flags = 0; name = (Some (hex (codes "66 30"))); index = 8; offset = 0; size = 0 } ∷ record { kind = Datum; flags = 4; name = (Some (hex (codes "64 30"))); index = 1; offset = 2; size = 1 } ∷ record { kind = Function; flags = 1; name = (Some (hex (codes "63 30"))); index = 2; offset = 0; size = 0 } ∷ record { kind = Function; flags = 2; name = (Some (hex (codes "69 6E 30"))); index = 6; offset = 0; size = 0 } ∷ record { kind = Function; flags = 1; name = (Some (hex (codes "63 32"))); index = 7; offset = 0; size = 0 } ∷ record { kind = Datum; flags = 1; name = (Some (hex (codes "65 30"))); index = 0; offset = 6; size = 1 } ∷ record { kind = Function; flags = 33; name = (Some (hex (codes "66 34"))); index = 5; offset = 0; size = 0 } ∷ record { kind = GlobalVar; flags = 80; name = (Some (hex (codes "5F 5F 73 74 61 63 6B 5F 70 6F 69 6E 74 65 72"))); index = 0; offset = 0; size = 0 } ∷ record { kind = Function; flags = 4; name = (Some (hex (codes "66 31"))); index = 3; offset = 0; size = 0 } ∷ record { kind = Function; flags = 80; name = (Some (hex (codes "66 32"))); index = 0; offset = 0; size = 0 } ∷ record { kind = Function; flags = 81; name = (Some (hex (codes "5F 73 74 61 72 74"))); index = 1; offset = 0; size = 0 } ∷ record { kind = Datum; flags = 17; name = (Some (hex (codes "64 31"))); index = 0; offset = 0; size = 0 } ∷ record { kind = GlobalVar; flags = 5; name = (Some (hex (codes "67 30"))); index = 1; offset = 0; size = 0 } ∷ record { kind = Function; flags = 2; name = (Some (hex (codes "6C 32"))); index = 9; offset = 0; size = 0 } ∷ record { kind = Datum; flags = 17; name = (Some (hex (codes "65 32"))); index = 0; offset = 0; size = 0 } ∷ record { kind = Table; flags = 16; name = (Some (hex (codes "5F 5F 69 6E 64 69 72 65 63 74 5F 66 75 6E 63 74 69 6F 6E 5F 74 61 62 6C 65"))); index = 0; offset = 0; size = 0 } ∷ []);
  inits = (record { priority = 200; symbol = 1 } ∷ record { priority = 65535; symbol = 5 } ∷ []);
  groups = (record { name = (hex (codes "67 72 70 30")); members = (record { kind = 1; index = 2 } ∷ record { kind = 0; index = 0 } ∷ record { kind = 1; index = 6 } ∷ []) } ∷ record { name = (hex (codes "67 72 70 32")); members = (record { kind = 1; index = 7 } ∷ []) } ∷ []);
}

abbrev pub mixed_output : List ℕ
mixed_output = (hex (codes "00 61 73 6D 01 00 00 00 01 18 05 60 00 01 7F 60 01 7C 01 7D 60 00 00 60 00 02 7E 7F 60 02 7E 7E 01 7E 03 09 08 00 01 01 00 02 02 02 00 04 05 01")
    ++ hex (codes "70 01 03 03 05 03 01 00 02 06 06 01 7F 01 41 7F 0B 07 0F 02 06 6D 65 6D 6F 72 79 02 00 02 66 34 00 03 09 08 01 00 41 01 0B 02 02 05 0A AE 01 08")
    ++ hex (codes "0D 01 02 7F 10 84 80 80 80 00 41 C0 00 0B 09 01 02 7F 43 00 00 80 3F 0B 1D 00 41 82 80 80 80 00 1A 03 40 41 01 04 40 41 81 80 80 80 00 1A 0B 0B")
    ++ hex (codes "43 00 00 80 3F 0B 41 00 41 01 04 82 80 80 80 00 03 83 80 80 80 00 44 00 00 00 00 00 00 00 00 10 82 80 80 80 00 1A 42 80 80 80 80 80 20 41 80 80")
    ++ hex (codes "80 80 78 0B 1A 1A 0B 23 80 80 80 80 00 1A 10 80 80 80 80 00 1A 41 00 0B 02 00 0B 12 01 02 7F 42 05 42 00 41 00 11 84 80 80 80 00 00 1A 0B 0A 01")
    ++ hex (codes "02 7F 10 85 80 80 80 00 0B 13 00 41 F6 88 80 80 00 1A 10 87 80 80 80 00 1A 41 E8 07 0B 0B 17 01 00 41 80 08 0B 10 2A 06 04 00 00 FF 2A 2A FF 00")
    ++ hex (codes "00 00 00 00 00 01"))
