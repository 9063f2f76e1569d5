-- Wrappers of exports (WebAssembly Core Specification 2.0, sections 2.5.3 functions, 2.5.10 exports, 5.4 instructions).
--
-- Where nothing in a program calls `__wasm_call_ctors`, each function that a module defines and exports is exported as one more
-- function of its type, which calls the constructors, the function with the arguments that came, and the destructors.
use Rattle.std.specs.Prelude.{ℕ, zero, suc, ◌+◌, ◌-◌, Bool, true, false, not, ◌==◌, ◌&&◌, ◌||◌, if◌then◌else◌, List, [], ◌∷◌, ◌++◌, length, map, filter, filter_map, flat_map, find, slice_get, Option, Some, None, option_map, option_and_then, option_to_list, bytes_eq, codes, nat_lt}
use Rattle.wasm_module.specs.wasm_instr.leb_codec.Shortest.{u32}
use Rattle.wasm_module.specs.wasm_instr.wasm_types.declared.function.FuncType.{FuncType}
use Rattle.wasm_module.specs.wasm_instr.wasm_types.declared.import.Import.{Import}
use Rattle.wasm_module.specs.wasm_instr.wasm_types.declared.import.ImportKind.{ImportKind}
use Rattle.wasm_module.specs.wasm_instr.wasm_types.declared.import.ImportKind.TheVariants as kinds
use Rattle.wasm_module.specs.wasm_instr.declared.instr.Instr.{Instr}
use Rattle.wasm_module.specs.wasm_instr.declared.instr.Instr.TheVariants as instrs
use Rattle.wasm_module.specs.wasm_instr.declared.body.Placed.{Placed}
use Rattle.wasm_module.specs.wasm_instr.declared.body.Body.{Body}
use Rattle.wasm_module.specs.declared.parts.Export.{Export}
use Rattle.wasm_module.specs.declared.structure.Module.{Module}
use Rattle.export_wrappers.specs.declared.wrapper.Wrapper.{Wrapper}
use Rattle.export_wrappers.specs.declared.wrapper.Asked.{Asked}

-- ---- the two helpers

abbrev pub ctors_name : List ℕ
ctors_name = codes "__wasm_call_ctors"

abbrev pub dtors_name : List ℕ
dtors_name = codes "__wasm_call_dtors"

-- whether it exports a function, by this name
abbrev pub is_function_named : List ℕ → Export → Bool
is_function_named name e = (e.kind == 0) && bytes_eq e.name name

-- The function of that name, by its number among all (Core 2.5.1: imports first).
abbrev pub function_named : List ℕ → List Export → Option ℕ
function_named name exports = option_map (λ e. e.index) (find (is_function_named name) exports)

abbrev pub is_helper : Export → Bool
is_helper e = is_function_named ctors_name e || is_function_named dtors_name e

-- The helpers are exported only where that is asked for.
abbrev pub is_kept : Asked → Export → Bool
is_kept asked e = (not (is_function_named ctors_name e) || asked.ctors) && (not (is_function_named dtors_name e) || asked.dtors)

-- ---- wrappers

abbrev pub is_function_kind : ImportKind → Bool
is_function_kind (kinds.Function kind) = true
is_function_kind (kinds.Table t) = false
is_function_kind (kinds.Memory l) = false
is_function_kind (kinds.GlobalVar t) = false

abbrev pub is_function : Import → Bool
is_function i = is_function_kind i.kind

-- how many functions are imported
abbrev pub imported : List Import → ℕ
imported imports = length (filter is_function imports)

-- The type of a function that the module defines, by its number among all.
abbrev pub defined_kind : ℕ → List ℕ → ℕ → Option ℕ
defined_kind imports functions index = if nat_lt index imports then None else slice_get functions (index - imports)

-- A wrapper of a function that has a type.
abbrev pub typed_wrapper : List FuncType → ℕ → ℕ → Option Wrapper
typed_wrapper types function kind = option_map (λ (t : FuncType). record { kind = kind; parameters = length t.params; function = function }) (slice_get types kind)

-- The wrapper of an exported function that the module defines and that is no helper.
abbrev pub wrapper_in : List FuncType → ℕ → List ℕ → Export → Option Wrapper
wrapper_in types imports functions e =
    if (e.kind == 0) && not (is_helper e) then option_and_then (typed_wrapper types e.index) (defined_kind imports functions e.index) else None

abbrev pub wrapper_of : Module → Export → Option Wrapper
wrapper_of m = wrapper_in m.types (imported m.imports) m.functions

-- The wrappers, in the order of the exports.
abbrev pub wrappers : Module → List Wrapper
wrappers m = filter_map (wrapper_of m) m.exports

-- The number of the first wrapper: they stand behind the module's functions.
abbrev pub first_wrapper : Module → ℕ
first_wrapper m = imported m.imports + length m.functions

-- ---- exports

-- An export, where it is wrapped by the function of that number.
abbrev pub exported_as : ℕ → Export → Option Wrapper → Export
exported_as next e None = e
exported_as next e (Some w) = record { name = e.name; kind = e.kind; index = next }

abbrev pub next_after : ℕ → Option Wrapper → ℕ
next_after next None = next
next_after next (Some w) = next + 1

-- The number behind all exports.
abbrev pub last_after : (Export → Option Wrapper) → ℕ → List Export → ℕ
last_after wrap next [] = next
last_after wrap next (e ∷ es) = last_after wrap (next_after next (wrap e)) es

-- The exports that are kept, each function that is wrapped by the number of its wrapper.
abbrev pub exports_from : Asked → (Export → Option Wrapper) → ℕ → List Export → List Export
exports_from asked wrap next [] = []
exports_from asked wrap next (e ∷ es) =
    (if is_kept asked e then exported_as next e (wrap e) ∷ [] else []) ++ exports_from asked wrap (next_after next (wrap e)) es

-- ---- bodies

-- What a wrapper does: it calls a function, or puts one of its own arguments on the stack.
pub data Step : Type 0 where
  call : ℕ → Step
  argument : ℕ → Step

-- The next arguments, so many from this one on.
abbrev pub arguments : ℕ → ℕ → List Step
arguments at zero = []
arguments at (suc n) = argument at ∷ arguments (at + 1) n

-- The constructors, the function with all arguments, the destructors where there are any.
abbrev pub steps : ℕ → Option ℕ → Wrapper → List Step
steps ctors dtors w = call ctors ∷ (arguments 0 w.parameters ++ (call w.function ∷ map call (option_to_list dtors)))

-- The instructions `call` and `local.get` (Core 5.4.1, 5.4.4).
abbrev pub step_instr : Step → Instr
step_instr (call function) = instrs.Call function
step_instr (argument local) = instrs.Local 0x20 local

-- Their bytes: the opcode, and the number as short as can be.
abbrev pub step_bytes : Step → List ℕ
step_bytes (call function) = 0x10 ∷ u32 function
step_bytes (argument local) = 0x20 ∷ u32 local

-- An instruction of one immediate, and its places, from the place of its opcode and its length.
abbrev pub placed_at : ℕ → Instr → ℕ → Placed
placed_at at x len = record { instr = x; at = at; mid = at + 1; end = at + len }

-- The instructions from this place on, and the `end` that closes the body (0B, Core 5.4.9).
abbrev pub code_from : ℕ → List Step → List Placed
code_from at [] = placed_at at (instrs.Plain 0x0B) 1 ∷ []
code_from at (s ∷ ss) = placed_at at (step_instr s) (length (step_bytes s)) ∷ code_from (at + length (step_bytes s)) ss

-- The body of a wrapper: no locals but the arguments, and its steps (Core 5.5.13).
abbrev pub body_of : ℕ → Option ℕ → Wrapper → Body
body_of ctors dtors w = record { locals = []; code = code_from 1 (steps ctors dtors w) }

-- Its bytes.
abbrev pub body_bytes : ℕ → Option ℕ → Wrapper → List ℕ
body_bytes ctors dtors w = 0 ∷ (flat_map step_bytes (steps ctors dtors w) ++ (0x0B ∷ []))

-- ---- modules

-- The module with wrappers that call this function of constructors.
abbrev pub wrapped_by : Asked → Module → ℕ → Module
wrapped_by asked m ctors = record {
  types = m.types;
  imports = m.imports;
  functions = m.functions ++ map (λ (w : Wrapper). w.kind) (wrappers m);
  tables = m.tables;
  memories = m.memories;
  globals = m.globals;
  exports = exports_from asked (wrapper_of m) (first_wrapper m) m.exports;
  elements = m.elements;
  data_count = m.data_count;
  bodies = m.bodies ++ map (body_of ctors (function_named dtors_name m.exports)) (wrappers m);
  data_segments = m.data_segments;
}

abbrev pub wrapped_with : Asked → Module → Option ℕ → Module
wrapped_with asked m None = m
wrapped_with asked m (Some ctors) = wrapped_by asked m ctors

-- The module whose exports are wrapped. One that exports no function `__wasm_call_ctors` stays as it is.
unfoldable pub wrapped : Asked → Module → Module
wrapped asked m = wrapped_with asked m (function_named ctors_name m.exports)
