-- Worked objects: where they aren't valid.
use Rattle.std.specs.Prelude.{◌≡◌, ℕ, List, [], ◌∷◌, Option, Some, None, false, refl, pos}
use Rattle.wasm_types.specs.declared.value.ValType.TheVariants.{I32}
use Rattle.object_file.specs.wl_base.declared.fault.InvalidAt.{InvalidAt}
use Rattle.object_file.specs.wl_base.declared.fault.InvalidAt.TheVariants.{Module, Body}
use Rattle.object_file.specs.leb_codec.Reading.{number_at, end_of, end_within}
use Rattle.wasm_instr.specs.wasm_grammar.Reading.{u32_at, s32_at}
use Rattle.object_file.specs.linking_section.declared.symbol.Symbol.{Symbol}
use Rattle.object_file.specs.linking_section.declared.symbol.SymbolKind.TheVariants.{Function, Datum}
use Rattle.object_file.specs.body_windows.declared.operand.Operand.{Operand}
use Rattle.object_file.specs.body_windows.declared.operand.Operand.TheVariants as operands
use Rattle.object_file.specs.object_columns.declared.functions.FunctionDef.{FunctionDef}
use Rattle.object_file.specs.declared.object.Object.{Object}
use Rattle.wasm_instr.specs.Bodies.{body_at, locals_at, runs_at, run_at, code_at}
use Rattle.wasm_instr.specs.Classes.{class_of}
use Rattle.wasm_instr.specs.Reading.{instr_at}
use Rattle.valid_rules.specs.Reading.{read, step}
use Rattle.valid_bodies.specs.Numeric.{numeric}
use Rattle.valid_bodies.specs.Accesses.{access}
use Rattle.valid_bodies.specs.Shapes.{plain}
use Rattle.wasm_types.specs.declared.import.ImportKind.TheVariants as kinds
use Rattle.wasm_types.specs.declared.const_expr.ConstExpr.TheVariants as constants
use Rattle.valid_objects.specs.Objects.{object_fault}

abbrev symbol : Symbol
symbol = record { kind = Function; flags = 0; name = None; index = 0; offset = 0; size = 0 }

-- A function of type () to (), whose body has so many bytes.
abbrev function : List Operand → ℕ → FunctionDef
function all len = record { type_index = 0; span = record { start = 0; len = len }; operands = all; export_name = None }

-- That function alone, with a symbol of it and one of a datum.
abbrev object : FunctionDef → Object
object f = record {
  input = 1;
  types = record { params = []; results = [] } ∷ [];
  imports = [];
  functions = f ∷ [];
  globals = [];
  segments = [];
  symbols = symbol ∷ record symbol { kind = Datum } ∷ [];
  inits = [];
  groups = [];
}

abbrev fault : List ℕ → List Operand → ℕ → Option InvalidAt
fault bytes all len = object_fault (object (function all len)) bytes

-- A number is left.
a_number_left : fault (0x00 ∷ 0x41 ∷ 0x01 ∷ 0x0B ∷ []) [] 4 ≡ Some (Body 0)
unfolding body_at locals_at runs_at run_at code_at class_of instr_at u32_at s32_at number_at end_of end_within read step plain numeric access
a_number_left = refl

-- A call of the function, by its symbol.
a_call : fault (0x00 ∷ 0x10 ∷ 0x80 ∷ 0x80 ∷ 0x80 ∷ 0x80 ∷ 0x00 ∷ 0x0B ∷ []) (operands.Symbol 0 2 0 (pos 0) ∷ []) 8 ≡ None
unfolding body_at locals_at runs_at run_at code_at class_of instr_at u32_at s32_at number_at end_of end_within read step plain numeric access
a_call = refl

-- A call without a reference.
no_reference : fault (0x00 ∷ 0x10 ∷ 0x80 ∷ 0x80 ∷ 0x80 ∷ 0x80 ∷ 0x00 ∷ 0x0B ∷ []) [] 8 ≡ Some (Body 0)
unfolding body_at locals_at runs_at run_at code_at class_of instr_at u32_at s32_at number_at end_of end_within read step plain numeric access
no_reference = refl

-- The address of a datum.
an_address : fault (0x00 ∷ 0x23 ∷ 0x80 ∷ 0x80 ∷ 0x80 ∷ 0x80 ∷ 0x00 ∷ 0x1A ∷ 0x0B ∷ []) (operands.Symbol 7 2 1 (pos 0) ∷ []) 9 ≡ None
unfolding body_at locals_at runs_at run_at code_at class_of instr_at u32_at s32_at number_at end_of end_within read step plain numeric access
an_address = refl

-- An address that is set.
an_address_set : fault (0x00 ∷ 0x41 ∷ 0x01 ∷ 0x24 ∷ 0x80 ∷ 0x80 ∷ 0x80 ∷ 0x80 ∷ 0x00 ∷ 0x0B ∷ []) (operands.Symbol 7 4 1 (pos 0) ∷ []) 10 ≡ Some (Body 0)
unfolding body_at locals_at runs_at run_at code_at class_of instr_at u32_at s32_at number_at end_of end_within read step plain numeric access
an_address_set = refl

-- A call through the table: the slot lies under it.
through_the_table : fault (0x00 ∷ 0x41 ∷ 0x01 ∷ 0x11 ∷ 0x80 ∷ 0x80 ∷ 0x80 ∷ 0x80 ∷ 0x00 ∷ 0x00 ∷ 0x0B ∷ []) (operands.TypeRef 4 0 ∷ operands.TableZero ∷ []) 11 ≡ None
unfolding body_at locals_at runs_at run_at code_at class_of instr_at u32_at s32_at number_at end_of end_within read step plain numeric access
through_the_table = refl

-- With an imported function the first body is that of function 1.
behind_an_import : object_fault (record (object (function [] 4)) { imports = record { «module» = []; field = []; kind = kinds.Function 0 } ∷ [] }) (0x00 ∷ 0x41 ∷ 0x01 ∷ 0x0B ∷ []) ≡ Some (Body 1)
unfolding body_at locals_at runs_at run_at code_at class_of instr_at u32_at s32_at number_at end_of end_within read step plain numeric access
behind_an_import = refl

-- An object with an imported function of type (i32) to (), which its first symbol names, before its own of type () to ().
abbrev importing : FunctionDef → Object
importing f = record (object f) {
  types = record { params = []; results = [] } ∷ record { params = I32 ∷ []; results = [] } ∷ [];
  imports = record { «module» = []; field = []; kind = kinds.Function 1 } ∷ [];
}

-- A call has the type of its symbol's function, and not that of its index, which is that of the function itself.
by_its_symbol : object_fault (importing (function (operands.Symbol 0 2 0 (pos 0) ∷ []) 8)) (0x00 ∷ 0x10 ∷ 0x81 ∷ 0x80 ∷ 0x80 ∷ 0x80 ∷ 0x00 ∷ 0x0B ∷ []) ≡ Some (Body 1)
unfolding body_at locals_at runs_at run_at code_at class_of instr_at u32_at s32_at number_at end_of end_within read step plain numeric access
by_its_symbol = refl

-- The same behind a number.
with_its_argument : object_fault (importing (function (operands.Symbol 0 4 0 (pos 0) ∷ []) 10)) (0x00 ∷ 0x41 ∷ 0x01 ∷ 0x10 ∷ 0x81 ∷ 0x80 ∷ 0x80 ∷ 0x80 ∷ 0x00 ∷ 0x0B ∷ []) ≡ None
unfolding body_at locals_at runs_at run_at code_at class_of instr_at u32_at s32_at number_at end_of end_within read step plain numeric access
with_its_argument = refl

-- A global of i32 with an i64: the rules outside the bodies come first.
global_of_other_type : object_fault (record (object (function [] 4)) { globals = record { kind = record { kind = I32; var = false }; value = constants.I64 (pos 1); span = record { start = 0; len = 0 } } ∷ [] }) (0x00 ∷ 0x41 ∷ 0x01 ∷ 0x0B ∷ []) ≡ Some Module
global_of_other_type = refl
