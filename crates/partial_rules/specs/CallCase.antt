-- One object, in which f calls g.
use Rattle.std.specs.Prelude.{ℕ, List, [], ◌∷◌, ◌++◌, Some, None, codes, pos}
use Rattle.object_file.specs.wasm_types.declared.value.ValType.TheVariants.{I32}
use Rattle.object_file.specs.wasm_types.declared.import.ImportKind.TheVariants as kinds
use Rattle.object_file.specs.linking_section.declared.symbol.SymbolKind.TheVariants.{Function}
use Rattle.object_file.specs.body_windows.declared.operand.Operand.TheVariants as operands
use Rattle.object_file.specs.declared.object.Object.{Object}
use Rattle.link_rules.specs.Examples.{hex}

-- The object, and its file.
abbrev pub call_objects : List Object
call_objects = record {
  input = 1;
  types = ((record { params = ([]); results = (I32 ∷ []) }) ∷ []);
  imports = ([]);
  functions = (record { type_index = 0; span = (record { start = 24; len = 8 }); operands = (operands.Symbol 0 2 1 (pos 0) ∷ []); export_name = None } ∷ record { type_index = 0; span = (record { start = 33; len = 4 }); operands = (operands.Number ∷ []); export_name = None } ∷ []);
  globals = ([]);
  segments = ([]);
  symbols = (record { kind = Function; flags = 0; name = (Some (hex (codes "66"))); index = 0; offset = 0; size = 0 } ∷ record { kind = Function; flags = 0; name = (Some (hex (codes "67"))); index = 1; offset = 0; size = 0 } ∷ []);
  inits = ([]);
  groups = ([]);
}
    ∷ []

abbrev pub call_files : List (List ℕ)
call_files = ((hex (codes "00 61 73 6D 01 00 00 00 01 05 01 60 00 01 7F 03 03 02 00 00 0A 0F 02 08 00 10 81 80 80 80 00 0B 04 00 41 07 0B 00 16 07 6C 69 6E 6B 69 6E 67 02")
    ++ hex (codes "08 0B 02 00 00 00 01 66 00 00 01 01 67 00 10 0A 72 65 6C 6F 63 2E 43 4F 44 45 02 01 00 04 01")) ∷ [])

abbrev pub call_made : List ℕ
call_made = (hex (codes "00 61 73 6D 01 00 00 00 01 05 01 60 00 01 7F 02 18 01 03 65 6E 76 0F 5F 5F 6C 69 6E 65 61 72 5F 6D 65 6D 6F 72 79 02 00 00 03 03 02 00 00 0A 0F")
    ++ hex (codes "02 08 00 10 80 80 80 80 00 0B 04 00 41 07 0B 00 16 07 6C 69 6E 6B 69 6E 67 02 08 0B 02 00 00 00 01 66 00 00 01 01 67 00 10 0A 72 65 6C 6F 63 2E")
    ++ hex (codes "43 4F 44 45 03 01 00 04 01"))

-- The made bytes as an object, as the reader gives them, and the output of both links.
abbrev pub call_read : Object
call_read = record {
  input = 1;
  types = ((record { params = ([]); results = (I32 ∷ []) }) ∷ []);
  imports = (record { «module» = (hex (codes "65 6E 76")); field = (hex (codes "5F 5F 6C 69 6E 65 61 72 5F 6D 65 6D 6F 72 79")); kind = (kinds.Memory (record { min = 0; max = None })) } ∷ []);
  functions = (record { type_index = 0; span = (record { start = 50; len = 8 }); operands = (operands.Symbol 0 2 1 (pos 0) ∷ []); export_name = None } ∷ record { type_index = 0; span = (record { start = 59; len = 4 }); operands = (operands.Number ∷ []); export_name = None } ∷ []);
  globals = ([]);
  segments = ([]);
  symbols = (record { kind = Function; flags = 0; name = (Some (hex (codes "66"))); index = 0; offset = 0; size = 0 } ∷ record { kind = Function; flags = 0; name = (Some (hex (codes "67"))); index = 1; offset = 0; size = 0 } ∷ []);
  inits = ([]);
  groups = ([]);
}

abbrev pub call_output : List ℕ
call_output = (hex (codes "00 61 73 6D 01 00 00 00 01 05 01 60 00 01 7F 03 03 02 00 00 04 05 01 70 01 01 01 05 03 01 00 02 07 0E 02 06 6D 65 6D 6F 72 79 02 00 01 66 00 00")
    ++ hex (codes "0A 0F 02 08 00 10 81 80 80 80 00 0B 04 00 41 07 0B"))
