-- Reading a module from left to right, up to the first fault.
use Rattle.std.specs.Prelude.{◌≡◌, ℕ, true, List, [], ◌∷◌, length, Option, Some, None, Result, Ok, Err, Bool, ◌==◌, ◌&&◌, if◌then◌else◌}
use Rattle.wasm_instr.specs.wasm_grammar.declared.fault.Stop.{Stop}
use Rattle.wasm_instr.specs.wasm_grammar.declared.fault.Stop.TheVariants.{Broken}
use Rattle.wasm_instr.specs.wasm_grammar.declared.fault.ReadFault.{ReadFault}
use Rattle.wasm_instr.specs.wasm_grammar.declared.fault.ReadFault.TheVariants as faults
use Rattle.wasm_instr.specs.wasm_grammar.Reading.{Read, ◌>>=◌, u32_at, part_at, vector_at, none_at}
use Rattle.wasm_instr.specs.wasm_types.Types.{func_type_at, import_at, table_type_at, limits_at}
use Rattle.wasm_instr.specs.declared.body.Body.{Body}
use Rattle.wasm_instr.specs.Bodies.{body_at}
use Rattle.wasm_sections.specs.Sections.{header}
use Rattle.wasm_module.specs.declared.structure.Module.{Module}
use Rattle.wasm_module.specs.declared.fault.ModuleFault.{ModuleFault}
use Rattle.wasm_module.specs.declared.fault.ModuleFault.TheVariants.{NotModule, OutOfMemory}
use Rattle.wasm_module.specs.PartReading.{global_at, export_at, element_at, data_segment_at}
use Rattle.wasm_module.specs.Sections.{customs_at, next_at, given_at}

-- A function's code: the size of its body, and the body (Core 5.5.13). The places in it are counted
-- from its first byte.
unfoldable pub code_at : Read Body
code_at end bytes = do
  part ← part_at end bytes
  body ← body_at part.0
  Ok (body, part.1)

-- The rest, behind these bytes.
abbrev pub behind : ℕ → List ℕ → List ℕ → Result (List ℕ) Stop
behind end [] bytes = Ok bytes
behind end (t ∷ text) [] = Err (Broken end)
behind end (t ∷ text) (byte ∷ rest) = if byte == t then behind end text rest else Err (Broken end)

-- Whether a data count that is given is this number.
abbrev pub is_count : Option ℕ → ℕ → Bool
is_count None n = true
is_count (Some count) n = count == n

-- The module, where its numbers add up.
abbrev pub added_up : ℕ → Module → Result Module Stop
added_up end m = if (length m.functions == length m.bodies) && is_count m.data_count (length m.data_segments) then Ok m else Err (Broken end)

-- The header, the sections in their order, each with the custom sections behind it, and the end.
unfoldable pub module_at : ℕ → List ℕ → Result Module Stop
module_at end bytes = do
  start ← behind end header bytes
  rest ← customs_at (length start) end start
  types ← next_at 1 [] (vector_at func_type_at) end rest
  imports ← next_at 2 [] (vector_at import_at) end types.1
  functions ← next_at 3 [] (vector_at u32_at) end imports.1
  tables ← next_at 4 [] (vector_at table_type_at) end functions.1
  memories ← next_at 5 [] (vector_at limits_at) end tables.1
  globals ← next_at 6 [] (vector_at (global_at true)) end memories.1
  exports ← next_at 7 [] (vector_at export_at) end globals.1
  elements ← next_at 9 [] (vector_at (element_at true)) end exports.1
  data_count ← next_at 12 None given_at end elements.1
  bodies ← next_at 10 [] (vector_at code_at) end data_count.1
  data_segments ← next_at 11 [] (vector_at (data_segment_at true)) end bodies.1
  nothing ← none_at end data_segments.1
  added_up end (record {
    types = types.0;
    imports = imports.0;
    functions = functions.0;
    tables = tables.0;
    memories = memories.0;
    globals = globals.0;
    exports = exports.0;
    elements = elements.0;
    data_count = data_count.0;
    bodies = bodies.0;
    data_segments = data_segments.0;
  })

abbrev pub module_of : List ℕ → Result Module Stop
module_of bytes = module_at (length bytes) bytes

-- ---- what the program answers

abbrev pub module_fault : ReadFault → ModuleFault
module_fault (faults.Stopped s) = NotModule
module_fault faults.OutOfMemory = OutOfMemory

-- What the call answered is what reading gives, but for the place and the cause of a fault, unless
-- memory ran out.
abbrev pub Tells : Result Module ModuleFault → Result Module Stop → Type 0
Tells (Ok m) read = read ≡ Ok m
Tells (Err NotModule) read = (fault : Stop) × (read ≡ Err fault)
Tells (Err OutOfMemory) read = Unit {0}
