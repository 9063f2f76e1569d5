-- Small modules and sessions, as words for worked runs.
use Rattle.std.specs.Prelude.{ℕ, true, List, [], ◌∷◌, map, Some, None, pos}
use Rattle.wasm_types.specs.declared.function.FuncType.{FuncType}
use Rattle.wasm_types.specs.declared.value.ValType.TheVariants as types
use Rattle.wasm_types.specs.declared.const_expr.ConstExpr.TheVariants as exprs
use Rattle.wasm_types.specs.declared.table.TableType.{TableType}
use Rattle.wasm_instr.specs.declared.instr.Instr.{Instr}
use Rattle.wasm_instr.specs.declared.instr.Instr.TheVariants.{Plain, I32Const}
use Rattle.wasm_instr.specs.declared.body.Placed.{Placed}
use Rattle.wasm_instr.specs.declared.body.LocalRun.{LocalRun}
use Rattle.wasm_instr.specs.declared.body.Body.{Body}
use Rattle.wasm_module.specs.declared.structure.Module.{Module}
use Rattle.wasm_module.specs.declared.parts.Export.{Export}
use Rattle.wasm_module.specs.declared.parts.Element.{Element}
use Rattle.run_rules.specs.declared.value.Value.{Value}
use Rattle.run_rules.specs.declared.trace.Event.{Event}
use Rattle.run_rules.specs.declared.session.Call.{Call}
use Rattle.run_rules.specs.declared.session.Answer.{Answer}
use Rattle.run_rules.specs.declared.session.Session.{Session}

-- a run, by what happened, and what has to happen
pub record Row : Type 0 where
  pub happened : List Event
  pub wanted : List Event

abbrev pub runs : List Row → List (List Event)
runs rows = map (λ row. row.happened) rows

abbrev pub answers : List Row → List (List Event)
answers rows = map (λ row. row.wanted) rows

-- ---- code

abbrev pub placed : Instr → Placed
placed x = record { instr = x; at = 0; mid = 0; end = 0 }

abbrev pub body : List LocalRun → List Instr → Body
body locals code = record { locals = locals; code = map placed code }

abbrev pub const : ℕ → Instr
const n = I32Const (pos n)

abbrev pub «end» : Instr
«end» = Plain 0x0B

-- ---- types

abbrev pub nothing : FuncType
nothing = record { params = []; results = [] }

-- () to i32, i32 to i32, (i32, i32) to i32
abbrev pub int : FuncType
int = record { params = []; results = types.I32 ∷ [] }

abbrev pub int_to_int : FuncType
int_to_int = record { params = types.I32 ∷ []; results = types.I32 ∷ [] }

abbrev pub ints_to_int : FuncType
ints_to_int = record { params = types.I32 ∷ types.I32 ∷ []; results = types.I32 ∷ [] }

-- ---- modules

abbrev pub f_name : List ℕ
f_name = 0x66 ∷ []

abbrev pub function_export : List ℕ → ℕ → Export
function_export name f = record { name = name; kind = 0; index = f }

-- functions, by the indexes of their types and their bodies; the first one is exported as `f`
abbrev pub module_of : List FuncType → List ℕ → List Body → Module
module_of types functions bodies = record {
  types = types;
  imports = [];
  functions = functions;
  tables = [];
  memories = [];
  globals = [];
  exports = function_export f_name 0 ∷ [];
  elements = [];
  data_count = None;
  bodies = bodies;
  data_segments = [];
}

-- a table of so many slots
abbrev pub slots : ℕ → TableType
slots n = record { funcref = true; limits = record { min = n; max = Some n } }

-- functions from slot 1 on
abbrev pub from_one : List ℕ → Element
from_one fs = record { table = None; offset = exprs.I32 (pos 1); functions = fs }

-- ---- sessions

abbrev pub call_f : List Value → Call
call_f args = record { name = f_name; args = args }

abbrev pub session : List Call → List Answer → Session
session calls answers = record { calls = calls; answers = answers; pages = None; globals = [] }

-- one call of `f`
abbrev pub once : List Value → Session
once args = session (call_f args ∷ []) []
