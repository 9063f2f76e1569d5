-- Worked modules. The bytes are taken from the Core Specification by hand.
use Rattle.std.specs.Prelude.{◌≡◌, ℕ, List, [], ◌∷◌, None, Some, codes, pos, negsuc, refl, true, false}
use Rattle.wasm_module.specs.wasm_instr.leb_codec.Shortest.{u32, s32, s64}
use Rattle.wasm_module.specs.wasm_instr.wasm_types.declared.value.ValType.TheVariants.{I32, I64, F32, F64}
use Rattle.wasm_module.specs.wasm_instr.wasm_types.declared.import.ImportKind.TheVariants as kinds
use Rattle.wasm_module.specs.wasm_instr.wasm_types.declared.const_expr.ConstExpr.TheVariants as constants
use Rattle.image_emit.specs.Bytes.{Tree, bytes_of}
use Rattle.image_emit.specs.Pieces.{code_place}

-- f calls g, which gives 7
abbrev pub call_tree : Tree
call_tree = record {
  custom = None;
  types = record { params = []; results = I32 ∷ [] } ∷ [];
  imports = [];
  functions = 0 ∷ 0 ∷ [];
  tables = record { funcref = true; limits = record { min = 1; max = Some 1 } } ∷ [];
  memories = record { min = 2; max = None } ∷ [];
  globals = [];
  exports = record { name = codes "memory"; kind = 2; index = 0 } ∷ record { name = codes "f"; kind = 0; index = 0 } ∷ [];
  elements = [];
  bodies = (0 ∷ 0x10 ∷ 0x81 ∷ 0x80 ∷ 0x80 ∷ 0x80 ∷ 0 ∷ 0x0B ∷ []) ∷ (0 ∷ 0x41 ∷ 7 ∷ 0x0B ∷ []) ∷ [];
  data_offset = constants.I32 (pos 0);
  blocks = [];
}

-- its 65 bytes
abbrev pub call_bytes : List ℕ
call_bytes =
    0x00 ∷ 0x61 ∷ 0x73 ∷ 0x6D ∷ 0x01 ∷ 0x00 ∷ 0x00 ∷ 0x00 ∷ 0x01 ∷ 0x05 ∷ 0x01 ∷ 0x60 ∷ 0x00 ∷ 0x01 ∷ 0x7F
    ∷ 0x03 ∷ 0x03 ∷ 0x02 ∷ 0x00 ∷ 0x00 ∷ 0x04 ∷ 0x05 ∷ 0x01 ∷ 0x70 ∷ 0x01 ∷ 0x01 ∷ 0x01
    ∷ 0x05 ∷ 0x03 ∷ 0x01 ∷ 0x00 ∷ 0x02 ∷ 0x07 ∷ 0x0E ∷ 0x02 ∷ 0x06 ∷ 0x6D ∷ 0x65 ∷ 0x6D ∷ 0x6F ∷ 0x72 ∷ 0x79 ∷ 0x02 ∷ 0x00
    ∷ 0x01 ∷ 0x66 ∷ 0x00 ∷ 0x00 ∷ 0x0A ∷ 0x0F ∷ 0x02 ∷ 0x08 ∷ 0x00 ∷ 0x10 ∷ 0x81 ∷ 0x80 ∷ 0x80 ∷ 0x80 ∷ 0x00 ∷ 0x0B
    ∷ 0x04 ∷ 0x00 ∷ 0x41 ∷ 0x07 ∷ 0x0B ∷ []

call_worked : bytes_of call_tree ≡ call_bytes
unfolding bytes_of u32
call_worked = refl

-- its code section's payload is the last 15 of these bytes
call_code : code_place call_tree ≡ Some (record { start = 50; len = 15 })
unfolding u32 code_place
call_code = refl

-- three bytes at 16 and one at 20 of a data segment: the one byte between is 0
abbrev pub data_tree : Tree
data_tree = record call_tree {
  types = [];
  functions = [];
  tables = [];
  memories = [];
  exports = [];
  bodies = [];
  data_offset = constants.I32 (pos 16);
  blocks = record { address = 16; bytes = 1 ∷ 2 ∷ 3 ∷ [] } ∷ record { address = 20; bytes = 4 ∷ [] } ∷ [];
}

no_code : code_place data_tree ≡ None
unfolding code_place
no_code = refl

data_worked : bytes_of data_tree ≡ 0x00 ∷ 0x61 ∷ 0x73 ∷ 0x6D ∷ 0x01 ∷ 0x00 ∷ 0x00 ∷ 0x00
    ∷ 0x0B ∷ 0x0B ∷ 0x01 ∷ 0x00 ∷ 0x41 ∷ 0x10 ∷ 0x0B ∷ 0x05 ∷ 0x01 ∷ 0x02 ∷ 0x03 ∷ 0x00 ∷ 0x04 ∷ []
unfolding bytes_of u32 s32
data_worked = refl

-- every kind of section but data: four kinds of imports, both forms of limits, globals of both signs and of the greatest
-- length, exports of each kind and one with no name, and both forms of element segments. With more than one memory the
-- module is well formed but not valid (Core 3.4.10).
abbrev pub kinds_tree : Tree
kinds_tree = record {
  custom = Some (1 ∷ 0x78 ∷ 7 ∷ []);
  types = record { params = I32 ∷ I64 ∷ F64 ∷ []; results = F32 ∷ [] } ∷ record { params = []; results = [] } ∷ [];
  imports =
      record { «module» = codes "env"; field = codes "f"; kind = kinds.Function 1 }
      ∷ record { «module» = codes "env"; field = codes "t"; kind = kinds.Table (record { funcref = true; limits = record { min = 3; max = None } }) }
      ∷ record { «module» = codes "env"; field = codes "m"; kind = kinds.Memory (record { min = 1; max = Some 300 }) }
      ∷ record { «module» = codes "env"; field = codes "g"; kind = kinds.GlobalVar (record { kind = I32; var = false }) }
      ∷ [];
  functions = 1 ∷ 1 ∷ [];
  tables = record { funcref = true; limits = record { min = 2; max = Some 2 } } ∷ record { funcref = false; limits = record { min = 0; max = None } } ∷ [];
  memories = record { min = 1; max = None } ∷ record { min = 1; max = Some 65536 } ∷ [];
  globals =
      record { kind = record { kind = I64; var = true }; value = constants.I64 (negsuc 0) }
      ∷ record { kind = record { kind = I32; var = true }; value = constants.I32 (pos 64) }
      ∷ record { kind = record { kind = I32; var = false }; value = constants.I32 (negsuc 64) }
      ∷ record { kind = record { kind = I32; var = false }; value = constants.Get 0 }
      ∷ record { kind = record { kind = I64; var = false }; value = constants.I64 (negsuc 9223372036854775807) }
      ∷ [];
  exports =
      record { name = codes "f"; kind = 0; index = 1 }
      ∷ record { name = codes "t"; kind = 1; index = 1 }
      ∷ record { name = codes "m"; kind = 2; index = 0 }
      ∷ record { name = codes "g"; kind = 3; index = 2 }
      ∷ record { name = []; kind = 3; index = 3 }
      ∷ [];
  elements =
      record { table = None; offset = constants.I32 (pos 1); functions = 1 ∷ 2 ∷ [] }
      ∷ record { table = Some 1; offset = constants.Get 0; functions = 0 ∷ [] }
      ∷ [];
  bodies = (0 ∷ 0x10 ∷ 0x80 ∷ 0x80 ∷ 0x80 ∷ 0x80 ∷ 0 ∷ 0x0B ∷ []) ∷ (1 ∷ 1 ∷ 0x7F ∷ 0x0B ∷ []) ∷ [];
  data_offset = constants.I32 (pos 0);
  blocks = [];
}

-- its 188 bytes, a section or entry a line
abbrev pub kinds_bytes : List ℕ
kinds_bytes =
    0x00 ∷ 0x61 ∷ 0x73 ∷ 0x6D ∷ 0x01 ∷ 0x00 ∷ 0x00 ∷ 0x00
    ∷ 0x00 ∷ 0x03 ∷ 0x01 ∷ 0x78 ∷ 0x07
    ∷ 0x01 ∷ 0x0B ∷ 0x02 ∷ 0x60 ∷ 0x03 ∷ 0x7F ∷ 0x7E ∷ 0x7C ∷ 0x01 ∷ 0x7D ∷ 0x60 ∷ 0x00 ∷ 0x00
    ∷ 0x02 ∷ 0x27 ∷ 0x04 ∷ 0x03 ∷ 0x65 ∷ 0x6E ∷ 0x76 ∷ 0x01 ∷ 0x66 ∷ 0x00 ∷ 0x01
    ∷ 0x03 ∷ 0x65 ∷ 0x6E ∷ 0x76 ∷ 0x01 ∷ 0x74 ∷ 0x01 ∷ 0x70 ∷ 0x00 ∷ 0x03
    ∷ 0x03 ∷ 0x65 ∷ 0x6E ∷ 0x76 ∷ 0x01 ∷ 0x6D ∷ 0x02 ∷ 0x01 ∷ 0x01 ∷ 0xAC ∷ 0x02
    ∷ 0x03 ∷ 0x65 ∷ 0x6E ∷ 0x76 ∷ 0x01 ∷ 0x67 ∷ 0x03 ∷ 0x7F ∷ 0x00
    ∷ 0x03 ∷ 0x03 ∷ 0x02 ∷ 0x01 ∷ 0x01
    ∷ 0x04 ∷ 0x08 ∷ 0x02 ∷ 0x70 ∷ 0x01 ∷ 0x02 ∷ 0x02 ∷ 0x6F ∷ 0x00 ∷ 0x00
    ∷ 0x05 ∷ 0x08 ∷ 0x02 ∷ 0x00 ∷ 0x01 ∷ 0x01 ∷ 0x01 ∷ 0x80 ∷ 0x80 ∷ 0x04
    ∷ 0x06 ∷ 0x25 ∷ 0x05 ∷ 0x7E ∷ 0x01 ∷ 0x42 ∷ 0x7F ∷ 0x0B
    ∷ 0x7F ∷ 0x01 ∷ 0x41 ∷ 0xC0 ∷ 0x00 ∷ 0x0B
    ∷ 0x7F ∷ 0x00 ∷ 0x41 ∷ 0xBF ∷ 0x7F ∷ 0x0B ∷ 0x7F ∷ 0x00 ∷ 0x23 ∷ 0x00 ∷ 0x0B
    ∷ 0x7E ∷ 0x00 ∷ 0x42 ∷ 0x80 ∷ 0x80 ∷ 0x80 ∷ 0x80 ∷ 0x80 ∷ 0x80 ∷ 0x80 ∷ 0x80 ∷ 0x80 ∷ 0x7F ∷ 0x0B
    ∷ 0x07 ∷ 0x14 ∷ 0x05 ∷ 0x01 ∷ 0x66 ∷ 0x00 ∷ 0x01 ∷ 0x01 ∷ 0x74 ∷ 0x01 ∷ 0x01 ∷ 0x01 ∷ 0x6D ∷ 0x02 ∷ 0x00 ∷ 0x01 ∷ 0x67 ∷ 0x03 ∷ 0x02 ∷ 0x00 ∷ 0x03 ∷ 0x03
    ∷ 0x09 ∷ 0x10 ∷ 0x02 ∷ 0x00 ∷ 0x41 ∷ 0x01 ∷ 0x0B ∷ 0x02 ∷ 0x01 ∷ 0x02 ∷ 0x02 ∷ 0x01 ∷ 0x23 ∷ 0x00 ∷ 0x0B ∷ 0x00 ∷ 0x01 ∷ 0x00
    ∷ 0x0A ∷ 0x0F ∷ 0x02 ∷ 0x08 ∷ 0x00 ∷ 0x10 ∷ 0x80 ∷ 0x80 ∷ 0x80 ∷ 0x80 ∷ 0x00 ∷ 0x0B ∷ 0x04 ∷ 0x01 ∷ 0x01 ∷ 0x7F ∷ 0x0B
    ∷ []

kinds_worked : bytes_of kinds_tree ≡ kinds_bytes
unfolding bytes_of u32 s32 s64
kinds_worked = refl
