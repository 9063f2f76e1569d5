-- The front of a module: its sections (Core 5.5.16), where the code is the bytes of each body (Core 5.5.13).
use Rattle.std.specs.Prelude.{◌≡◌, ℕ, true, List, [], ◌∷◌, length, Option, Some, None, Result, Ok, Err, ◌==◌, ◌&&◌, if◌then◌else◌}
use Rattle.wasm_module.specs.wasm_instr.wasm_grammar.declared.fault.Stop.{Stop}
use Rattle.wasm_module.specs.wasm_instr.wasm_grammar.declared.fault.Stop.TheVariants.{Broken}
use Rattle.wasm_module.specs.wasm_instr.wasm_grammar.Reading.{◌>>=◌, u32_at, part_at, vector_at, none_at}
use Rattle.wasm_module.specs.wasm_instr.wasm_types.Types.{func_type_at, import_at, table_type_at, limits_at}
use Rattle.wasm_module.specs.wasm_instr.declared.body.Body.{Body}
use Rattle.wasm_module.specs.wasm_instr.Bodies.{body_at}
use Rattle.wasm_module.specs.wasm_sections.Sections.{header}
use Rattle.wasm_module.specs.declared.structure.Module.{Module}
use Rattle.wasm_module.specs.declared.fault.ModuleFault.{ModuleFault}
use Rattle.wasm_module.specs.declared.fault.ModuleFault.TheVariants.{NotModule, OutOfMemory}
use Rattle.wasm_module.specs.PartReading.{global_at, export_at, element_at, data_segment_at}
use Rattle.wasm_module.specs.Sections.{customs_at, next_at, given_at}
use Rattle.wasm_module.specs.ModuleReading.{behind, is_count}

-- A module with no body, and the bytes of its bodies.
abbrev pub Fronted : Type 0
Fronted = Module × List (List ℕ)

-- The front, where its numbers add up.
abbrev pub added_up : ℕ → Module → List (List ℕ) → Result Fronted Stop
added_up end m parts = if (length m.functions == length parts) && is_count m.data_count (length m.data_segments) then Ok (m, parts) else Err (Broken end)

-- The header, the sections in their order, each with the custom sections behind it, and the end; of each body its bytes.
unfoldable pub front_at : ℕ → List ℕ → Result Fronted Stop
front_at end bytes = do
  start ← behind end header bytes
  rest ← customs_at (length start) end start
  types ← next_at 1 [] (vector_at func_type_at) end rest
  imports ← next_at 2 [] (vector_at import_at) end types.1
  functions ← next_at 3 [] (vector_at u32_at) end imports.1
  tables ← next_at 4 [] (vector_at table_type_at) end functions.1
  memories ← next_at 5 [] (vector_at limits_at) end tables.1
  globals ← next_at 6 [] (vector_at (global_at true)) end memories.1
  exports ← next_at 7 [] (vector_at export_at) end globals.1
  elements ← next_at 9 [] (vector_at (element_at true)) end exports.1
  data_count ← next_at 12 None given_at end elements.1
  parts ← next_at 10 [] (vector_at part_at) end data_count.1
  data_segments ← next_at 11 [] (vector_at (data_segment_at true)) end parts.1
  nothing ← none_at end data_segments.1
  added_up end (record {
    types = types.0;
    imports = imports.0;
    functions = functions.0;
    tables = tables.0;
    memories = memories.0;
    globals = globals.0;
    exports = exports.0;
    elements = elements.0;
    data_count = data_count.0;
    bodies = [];
    data_segments = data_segments.0;
  }) parts.0

-- ---- the module of a front

-- The bodies that these parts are, up to the first that is none.
abbrev pub bodies_of : List (List ℕ) → Result (List Body) Stop
bodies_of [] = Ok []
bodies_of (part ∷ parts) = do
  body ← body_at part
  bodies ← bodies_of parts
  Ok (body ∷ bodies)

-- The module, with these bodies.
abbrev pub with_bodies : List Body → Module → Module
with_bodies bodies m = record {
  types = m.types;
  imports = m.imports;
  functions = m.functions;
  tables = m.tables;
  memories = m.memories;
  globals = m.globals;
  exports = m.exports;
  elements = m.elements;
  data_count = m.data_count;
  bodies = bodies;
  data_segments = m.data_segments;
}

-- The module that a front is, where its parts are bodies.
abbrev pub opened : Fronted → Result Module Stop
opened front = do
  bodies ← bodies_of front.1
  Ok (with_bodies bodies front.0)

-- What is read; a fault is none, whatever it is.
abbrev pub found : {A : Type 0} → Result A Stop → Option A
found (Ok x) = Some x
found (Err e) = None

-- No module is read; want of memory says nothing of it.
abbrev pub Refuses : ModuleFault → Result Module Stop → Type 0
Refuses NotModule read = found read ≡ None
Refuses OutOfMemory read = Unit {0}

-- The answer, seen by view, is the front of the module that is read. Where there is none, no module is read.
abbrev pub Opens : {X : Type 0} → (X → Fronted) → Result X ModuleFault → Result Module Stop → Type 0
Opens view (Ok front) read = found read ≡ found (opened (view front))
Opens view (Err e) read = Refuses e read
