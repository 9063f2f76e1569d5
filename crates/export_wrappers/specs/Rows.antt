-- Worked examples.
use Rattle.std.specs.Prelude.{◌≡◌, ℕ, false, true, List, [], ◌∷◌, Some, None, codes}
use Rattle.std.proofs.Common.{refl}
use Rattle.wasm_module.specs.wasm_instr.leb_codec.Shortest.{u32}
use Rattle.wasm_module.specs.wasm_instr.wasm_types.declared.value.ValType.TheVariants.{I32}
use Rattle.wasm_module.specs.wasm_instr.declared.instr.Instr.{Instr}
use Rattle.wasm_module.specs.wasm_instr.declared.instr.Instr.TheVariants as instrs
use Rattle.wasm_module.specs.wasm_instr.declared.body.Placed.{Placed}
use Rattle.wasm_module.specs.wasm_instr.declared.body.Body.{Body}
use Rattle.wasm_module.specs.declared.parts.Export.{Export}
use Rattle.wasm_module.specs.declared.structure.Module.{Module}
use Rattle.export_wrappers.specs.Wrapped.{body_bytes, wrapped}

-- Constructors 0, a function 1 of one argument, and no destructors: call 0, local.get 0, call 1, end.
one_argument : body_bytes 0 None (record { kind = 1; parameters = 1; function = 1 }) ≡ 0 ∷ 0x10 ∷ 0 ∷ 0x20 ∷ 0 ∷ 0x10 ∷ 1 ∷ 0x0B ∷ []
unfolding u32
one_argument = refl

-- Constructors 3, a function 200 of two arguments, and destructors 4.
two_arguments : body_bytes 3 (Some 4) (record { kind = 1; parameters = 2; function = 200 }) ≡ 0 ∷ 0x10 ∷ 3 ∷ 0x20 ∷ 0 ∷ 0x20 ∷ 1 ∷ 0x10 ∷ 0xC8 ∷ 1 ∷ 0x10 ∷ 4 ∷ 0x0B ∷ []
unfolding u32
two_arguments = refl

abbrev placed : Instr → ℕ → ℕ → ℕ → Placed
placed x at mid end = record { instr = x; at = at; mid = mid; end = end }

abbrev export : List ℕ → ℕ → ℕ → Export
export name kind index = record { name = name; kind = kind; index = index }

abbrev empty_body : Body
empty_body = record { locals = []; code = placed (instrs.Plain 0x0B) 1 2 2 ∷ [] }

abbrev module_of_two : List ℕ → List Export → List Body → Module
module_of_two functions exports bodies = record {
  types = record { params = []; results = [] } ∷ record { params = I32 ∷ []; results = [] } ∷ [];
  imports = [];
  functions = functions;
  tables = [];
  memories = [];
  globals = [];
  exports = exports;
  elements = [];
  data_count = None;
  bodies = bodies;
  data_segments = [];
}

-- The constructors and a function of one argument are exported, and a memory: the function by its wrapper, of number 2 and the same type.
wrapped_module :
    wrapped (record { ctors = false; dtors = false }) (module_of_two (0 ∷ 1 ∷ []) (export (codes "__wasm_call_ctors") 0 0 ∷ export (codes "f") 0 1 ∷ export (codes "memory") 2 0 ∷ []) (empty_body ∷ empty_body ∷ []))
    ≡ module_of_two (0 ∷ 1 ∷ 1 ∷ []) (export (codes "f") 0 2 ∷ export (codes "memory") 2 0 ∷ []) (empty_body ∷ empty_body ∷ (record {
      locals = [];
      code = placed (instrs.Call 0) 1 2 3 ∷ placed (instrs.Local 0x20 0) 3 4 5 ∷ placed (instrs.Call 1) 5 6 7 ∷ placed (instrs.Plain 0x0B) 7 8 8 ∷ [];
    }) ∷ [])
unfolding wrapped u32
wrapped_module = refl

-- The constructors stay exported where that is asked for, as themselves.
asked_for :
    wrapped (record { ctors = true; dtors = false }) (module_of_two (0 ∷ []) (export (codes "__wasm_call_ctors") 0 0 ∷ []) (empty_body ∷ []))
    ≡ module_of_two (0 ∷ []) (export (codes "__wasm_call_ctors") 0 0 ∷ []) (empty_body ∷ [])
unfolding wrapped
asked_for = refl

-- Without the constructors' function nothing is wrapped; a memory of that name is none.
not_wrapped :
    wrapped (record { ctors = false; dtors = false }) (module_of_two (0 ∷ []) (export (codes "__wasm_call_ctors") 2 0 ∷ export (codes "f") 0 0 ∷ []) (empty_body ∷ []))
    ≡ module_of_two (0 ∷ []) (export (codes "__wasm_call_ctors") 2 0 ∷ export (codes "f") 0 0 ∷ []) (empty_body ∷ [])
unfolding wrapped
not_wrapped = refl
