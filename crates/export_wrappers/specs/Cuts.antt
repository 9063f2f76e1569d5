-- Where a module is cut for its wrappers: before, between and behind the sections of functions, exports and code (Core 5.5.6, 5.5.10,
-- 5.5.13). What stands elsewhere is kept as its bytes.
use Rattle.std.specs.Prelude.{ℕ, ◌-◌, List, [], length, take, drop, Result, Ok, if◌then◌else◌}
use Rattle.wasm_module.specs.wasm_instr.wasm_grammar.declared.fault.Stop.{Stop}
use Rattle.wasm_module.specs.wasm_instr.wasm_grammar.Reading.{◌>>=◌, u32_at, part_at, vector_at}
use Rattle.wasm_module.specs.wasm_instr.wasm_types.Types.{func_type_at, import_at}
use Rattle.wasm_module.specs.wasm_instr.wasm_types.declared.function.FuncType.{FuncType}
use Rattle.wasm_module.specs.wasm_instr.wasm_types.declared.import.Import.{Import}
use Rattle.wasm_module.specs.wasm_sections.Sections.{header}
use Rattle.wasm_module.specs.declared.parts.Export.{Export}
use Rattle.wasm_module.specs.PartReading.{export_at}
use Rattle.wasm_module.specs.Sections.{begins, customs_at, section_at, next_at}
use Rattle.wasm_module.specs.ModuleReading.{behind}
use Rattle.export_wrappers.specs.declared.cutting.Lent.{Lent}
use Rattle.export_wrappers.specs.declared.cutting.Cuts.{Cuts}

-- The bytes that are kept.
pub record Kept : Type 0 where
  -- how many bodies there are
  pub count : ℕ
  -- all before the function section
  pub before : List ℕ
  -- between it and the export section
  pub between : List ℕ
  -- between that and the code section
  pub after : List ℕ
  -- the bodies, each with its size
  pub bodies : List ℕ
  -- behind the code section
  pub rest : List ℕ

-- What is read, and what is kept.
pub record Cut : Type 0 where
  pub types : List FuncType
  pub imports : List Import
  pub functions : List ℕ
  pub exports : List Export
  pub kept : Kept

-- The bytes up to where the rest begins.
abbrev pub up_to : List ℕ → List ℕ → List ℕ
up_to bytes rest = take (length bytes - length rest) bytes

-- The rest behind a section, where it stands at the front.
unfoldable pub section_end_at : ℕ → ℕ → List ℕ → Result (List ℕ) Stop
section_end_at id end bytes = if begins id bytes then (part_at end (drop 1 bytes) >>= λ part. Ok part.1) else Ok bytes

-- The rest behind a section and the custom sections behind it.
unfoldable pub past_at : ℕ → ℕ → List ℕ → Result (List ℕ) Stop
past_at id end bytes = do
  rest ← section_end_at id end bytes
  customs_at (length rest) end rest

-- How many bodies there are, their bytes, and the rest behind the code section.
abbrev pub Codes : Type 0
Codes = ℕ × List ℕ × List ℕ

unfoldable pub sized_codes_at : ℕ → List ℕ → Result Codes Stop
sized_codes_at end bytes = do
  part ← part_at end bytes
  count ← u32_at (end - length part.1) part.0
  Ok (count.0, count.1, part.1)

unfoldable pub codes_at : ℕ → List ℕ → Result Codes Stop
codes_at end bytes = if begins 10 bytes then sized_codes_at end (drop 1 bytes) else Ok (0, [], bytes)

unfoldable pub cut_at : ℕ → List ℕ → Result Cut Stop
cut_at end bytes = do
  start ← behind end header bytes
  rest ← customs_at (length start) end start
  types ← next_at 1 [] (vector_at func_type_at) end rest
  imports ← next_at 2 [] (vector_at import_at) end types.1
  functions ← section_at 3 [] (vector_at u32_at) end imports.1
  rest ← customs_at (length functions.1) end functions.1
  rest ← past_at 4 end rest
  rest ← past_at 5 end rest
  globals ← past_at 6 end rest
  exports ← section_at 7 [] (vector_at export_at) end globals
  rest ← customs_at (length exports.1) end exports.1
  rest ← past_at 9 end rest
  counts ← past_at 12 end rest
  codes ← codes_at end counts
  Ok (record {
    types = types.0;
    imports = imports.0;
    functions = functions.0;
    exports = exports.0;
    kept = record {
      count = codes.0;
      before = up_to bytes imports.1;
      between = up_to functions.1 globals;
      after = up_to exports.1 counts;
      bodies = codes.1;
      rest = codes.2;
    };
  })

-- What the program has of them.
abbrev pub seen_kept : Lent → Kept
seen_kept k = record {
  count = k.count;
  before = k.before.now;
  between = k.between.now;
  after = k.after.now;
  bodies = k.bodies.now;
  rest = k.rest.now;
}

abbrev pub seen : Cuts → Cut
seen c = record { types = c.types; imports = c.imports; functions = c.functions; exports = c.exports; kept = seen_kept c.kept }
