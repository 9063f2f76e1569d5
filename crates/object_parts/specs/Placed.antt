-- Globals and data segments of an object, with where they stand (Core 5.5.9, 5.5.14).
use Rattle.std.specs.Prelude.{◌≡◌, ℕ, ◌-◌, false, List, ◌++◌, length, Ok}
use Rattle.wasm_instr.specs.wl_base.declared.span.Span.{Span}
use Rattle.wasm_instr.specs.wasm_grammar.Reading.{Read, ◌>>=◌}
use Rattle.wasm_instr.specs.wasm_types.Types.{SpellsGlobalType, SpellsConstExpr, global_type_at, const_expr_at}
use Rattle.object_parts.specs.declared.parts.GlobalDef.{GlobalDef}
use Rattle.object_parts.specs.declared.parts.DataPart.{DataPart}
use Rattle.wasm_module.specs.declared.parts.DataSegment.{DataSegment}
use Rattle.wasm_module.specs.Parts.{SpellsDataSegment}
use Rattle.wasm_module.specs.PartReading.{data_segment_at}
use Rattle.object_parts.specs.Turns.{Spelling}

-- The bytes from here on up to there, by the place of the end of both.
abbrev pub span_between : ℕ → List ℕ → List ℕ → Span
span_between end from to = record { start = end - length from; len = length from - length to }

-- So many bytes that end where the rest begins.
abbrev pub span_before : ℕ → ℕ → List ℕ → Span
span_before end len rest = record { start = end - length rest - len; len = len }

-- Nothing that came before counts.
abbrev pub stays : {A : Type 0} → Unit {0} → A → Unit {0}
stays state x = tt

-- A global: its type, and the expression of its first value (Core 5.5.9).
abbrev pub SpellsGlobalDef : Spelling (Unit {0}) GlobalDef
SpellsGlobalDef state end g text rest =
    (kind : List ℕ) × (value : List ℕ) × SpellsGlobalType g.kind kind × SpellsConstExpr g.value value
    × (text ≡ kind ++ value) × (g.span ≡ span_between end (value ++ rest) rest)

unfoldable pub global_def_at : Unit {0} → Read GlobalDef
global_def_at state end bytes = do
  kind ← global_type_at end bytes
  value ← const_expr_at end kind.1
  Ok (record { kind = kind.0; value = value.0; span = span_between end kind.1 value.1 }, value.1)

-- An active data segment, whose bytes end it (Core 5.5.14). Its offset may be anything that is
-- spelled.
abbrev pub SpellsDataPart : Spelling (Unit {0}) DataPart
SpellsDataPart state end d text rest =
    (s : DataSegment) × SpellsDataSegment false s text × (d.memory ≡ s.memory)
    × (d.span ≡ span_before end (length s.bytes) rest)

unfoldable pub data_part_at : Unit {0} → Read DataPart
data_part_at state end bytes = do
  s ← data_segment_at false end bytes
  Ok (record { memory = s.0.memory; span = span_before end (length s.0.bytes) s.1 }, s.1)
