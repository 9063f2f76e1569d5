-- Bodies of an object, each with its relocations (Core 5.5.13, Linking.md "Relocation Sections").
--
-- The offsets of relocations count from the code section's payload, whose first byte stands at
-- `start` in the object. They rise. A relocation belongs to the first body that ends behind it, so
-- one that stands before that body's bytes, as on its size, is on no immediate.
use Rattle.std.specs.Prelude.{◌≡◌, ℕ, ◌+◌, ◌-◌, List, ◌++◌, length, take, drop, nat_lt, Result, Ok, Bool}
use Rattle.std.specs.List.{prefix_len}
use Rattle.wasm_instr.specs.wl_base.declared.span.Span.{Span}
use Rattle.wasm_instr.specs.wasm_grammar.declared.fault.Stop.{Stop}
use Rattle.wasm_instr.specs.wasm_grammar.Grammar.{SpellsU32}
use Rattle.wasm_instr.specs.wasm_grammar.Reading.{Read, ◌>>=◌, part_at}
use Rattle.wasm_instr.specs.Bodies.{SpellsBody, body_at}
use Rattle.wasm_instr.specs.declared.body.Body.{Body}
use Rattle.body_windows.specs.reloc_section.declared.entry.Reloc.{Reloc}
use Rattle.body_windows.specs.Windows.{windows_of}
use Rattle.object_parts.specs.declared.parts.CodeBody.{CodeBody}
use Rattle.object_parts.specs.Turns.{Spelling}
use Rattle.object_parts.specs.Placed.{span_before}

-- Whether a relocation begins before this place of the payload.
abbrev pub begins_before : ℕ → Reloc → Bool
begins_before place r = nat_lt r.offset place

-- The relocations that begin before a place, and those from there on.
abbrev pub before : ℕ → List Reloc → List Reloc
before place relocs = take (prefix_len (begins_before place) relocs) relocs

abbrev pub behind : ℕ → List Reloc → List Reloc
behind place relocs = drop (prefix_len (begins_before place) relocs) relocs

-- Where a body ends in the payload, and where it begins.
abbrev pub end_in : ℕ → Span → ℕ
end_in start span = span.start + span.len - start

abbrev pub base_in : ℕ → Span → ℕ
base_in start span = span.start - start

-- The relocations that are left behind a body.
abbrev pub left_behind : ℕ → List Reloc → CodeBody → List Reloc
left_behind start relocs b = behind (end_in start b.span) relocs

-- A size and a body (Core 5.5.13), whose immediates have the relocations that are left before its
-- end.
abbrev pub SpellsCodeBody : ℕ → Spelling (List Reloc) CodeBody
SpellsCodeBody start relocs end b text rest =
    (body : Body) × (size : List ℕ) × (part : List ℕ) × SpellsU32 (length part) size × SpellsBody body part
    × (text ≡ size ++ part) × (b.span ≡ span_before end (length part) rest)
    × (b.windows ≡ windows_of (base_in start b.span) (before (end_in start b.span) relocs) body)

-- A body that stands at this span.
unfoldable pub body_in : ℕ → List Reloc → Span → List ℕ → Result CodeBody Stop
body_in start relocs span part = do
  body ← body_at part
  Ok (record { span = span; windows = windows_of (base_in start span) (before (end_in start span) relocs) body })

unfoldable pub code_body_at : ℕ → List Reloc → Read CodeBody
code_body_at start relocs end bytes = do
  part ← part_at end bytes
  b ← body_in start relocs (span_before end (length part.0) part.1) part.0
  Ok (b, part.1)
