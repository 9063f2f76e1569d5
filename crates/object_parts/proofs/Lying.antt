-- The parts of an object lie in its bytes.
use Rattle.std.proofs.Common.{◌≡◌, ℕ, ◌+◌, ◌-◌, ◌≤◌, List, [], ◌∷◌, ◌++◌, length, take, drop, Result, Ok, Err, refl, sym, ap, subst, arith, length-take, length-drop}
use Rattle.std.specs.Prelude.{All, IfOk}
use Rattle.std.proofs.lemmas.List.{length-append}
use Rattle.std.proofs.lemmas.List.Elements.{All-nil, All-cons, All-head, All-tail, All-weaker}
use Rattle.std.specs.Prelude.{Bool, true, false, Option, Some, None}
use Rattle.wasm_instr.specs.wasm_grammar.Grammar.{SpellsBytes, Then}
use Rattle.wasm_instr.specs.wasm_types.declared.const_expr.ConstExpr.{ConstExpr}
use Rattle.wasm_module.specs.Parts.{SpellsData}
use Rattle.object_parts.specs.Reading.{code_relocs, parts_of, GivesParts}
use Rattle.object_parts.specs.declared.reading.PartsFault.{PartsFault}
use Rattle.object_parts.proofs.Sections.{parts_found}
use Rattle.object_parts.specs.Imports.{SpellsObjectImport, seen_import, none_seen}
use Rattle.wasm_instr.specs.wl_base.declared.span.Span.{Span}
use Rattle.wasm_instr.specs.wasm_grammar.declared.fault.Stop.{Stop}
use Rattle.wasm_module.specs.wasm_sections.declared.section.SectionSpan.{SectionSpan}
use Rattle.wasm_module.specs.declared.parts.DataSegment.{DataSegment}
use Rattle.wasm_module.specs.Parts.{SpellsDataSegment}
use Rattle.body_windows.specs.reloc_section.declared.entry.Reloc.{Reloc}
use Rattle.object_parts.specs.declared.kind.SectionKind.{SectionKind}
use Rattle.object_parts.specs.declared.kind.SectionKind.TheVariants as sections
use Rattle.object_parts.specs.declared.kind.CustomKind.{CustomKind}
use Rattle.object_parts.specs.declared.kind.CustomKind.TheVariants as customs
use Rattle.object_parts.specs.declared.parts.GlobalDef.{GlobalDef}
use Rattle.object_parts.specs.declared.parts.DataPart.{DataPart}
use Rattle.object_parts.specs.declared.parts.CodeBody.{CodeBody}
use Rattle.object_parts.specs.declared.parts.Parts.{Parts}
use Rattle.linking_section.specs.declared.linking.Linking.{Linking}
use Rattle.object_parts.specs.Kinds.{kind_of, custom_kind_of}
use Rattle.object_parts.specs.Turns.{Spelling, AreInTurn, AreEntries}
use Rattle.object_parts.specs.Placed.{span_between, span_before, SpellsGlobalDef, SpellsDataPart, stays}
use Rattle.object_parts.specs.Code.{SpellsCodeBody, left_behind}
use Rattle.object_parts.specs.Adding.{no_parts, end_of, with_linking, with_relocs, AddsCustom, AddsKind}
use Rattle.object_parts.specs.Sections.{bytes_in, AddInTurn}
use Rattle.object_parts.specs.Spans.{LiesIn, LieIn}

-- what holds of each item that stands before an end holds of all
module _ {S A : Type 0} (Item : Spelling S A) (next : S → A → S) (P : A → Type 0) (end : ℕ)
    (each : (state : S) (x : A) (first rest : List ℕ) → Item state end x first rest → length first + length rest ≤ end → P x) where
  turn_all : (state : S) (xs : List A) (text rest : List ℕ) → length text + length rest ≤ end → AreInTurn Item next state end xs text rest → All P xs
  turn_all state [] text rest le s = All-nil P
  turn_all state (x ∷ xs) text rest le s =
      let whole : length text ≡ length s.0 + length s.1 = omega (arith, ap length s.4, length-append s.0 s.1) in
      All-cons P x xs (each state x s.0 (s.1 ++ rest) s.2 (omega (arith, length-append s.1 rest))) (turn_all (next state x) xs s.1 rest (omega arith) s.3)

  entries_all : (state : S) (xs : List A) (payload : List ℕ) → length payload ≤ end → AreEntries Item next state end xs payload → All P xs
  entries_all state xs payload le s =
      turn_all state xs s.1 [] (omega (arith, ap length s.4, length-append s.0 s.1)) s.3

-- so many bytes that end before the rest
before_lies : (end n : ℕ) (rest : List ℕ) (span : Span) → span ≡ span_before end n rest → n + length rest ≤ end → LiesIn end span
before_lies end n rest span is le = rw is (omega arith)

body_lies : (start end : ℕ) (relocs : List Reloc) (b : CodeBody) (first rest : List ℕ) → SpellsCodeBody start relocs end b first rest → length first + length rest ≤ end → LiesIn end b.span
body_lies start end relocs b first rest s le = before_lies end (length s.2) rest b.span s.6 (omega (arith, ap length s.5, length-append s.1 s.2))

then_len : {P Q : List ℕ → Type 0} (text : List ℕ) (s : Then P Q text) → length text ≡ length s.0 + length s.1
then_len text s = omega (arith, ap length s.4, length-append s.0 s.1)

bytes_len : (kept text : List ℕ) → SpellsBytes kept text → length kept ≤ length text
bytes_len kept text s = omega (arith, then_len text s, ap length s.3)

data_len : (get : Bool) (memory : Option ℕ) (offset : ConstExpr) (kept text : List ℕ) → SpellsData get memory offset kept text → length kept ≤ length text
data_len get None offset kept text s = omega (arith, then_len text s, then_len s.1 s.3, bytes_len kept s.3.1 s.3.3)
data_len get (Some memory) offset kept text s = omega (arith, then_len text s, then_len s.1 s.3, then_len s.3.1 s.3.3, bytes_len kept s.3.3.1 s.3.3.3)

data_lies : (end : ℕ) (d : DataPart) (first rest : List ℕ) → SpellsDataPart tt end d first rest → length first + length rest ≤ end → LiesIn end d.span
data_lies end d first rest s le = before_lies end (length s.0.bytes) rest d.span s.3 (omega (arith, data_len false s.0.memory s.0.offset s.0.bytes first s.1))

global_lies : (end : ℕ) (g : GlobalDef) (first rest : List ℕ) → SpellsGlobalDef tt end g first rest → length first + length rest ≤ end → LiesIn end g.span
global_lies end g first rest s le = rw s.5 (omega (arith, ap length s.4, length-append s.0 s.1, length-append s.1 rest))

custom_lies : (size : ℕ) (all : List SectionSpan) (kind : CustomKind) (parts after : Parts) (bytes : List ℕ) → LieIn size parts → AddsCustom all kind parts bytes after → LieIn size after
custom_lies size all customs.Linking parts after bytes lie s = subst (LieIn size) (sym s.2) (linked parts.linking)
  where
    linked : (first : Option Linking) → LieIn size (with_linking parts first s.0)
    linked None = record { bodies = lie.bodies; segments = lie.segments; globals = lie.globals }
    linked (Some l) = record { bodies = lie.bodies; segments = lie.segments; globals = lie.globals }
custom_lies size all customs.Relocs parts after bytes lie s = subst (LieIn size) (sym s.2) (record { bodies = lie.bodies; segments = lie.segments; globals = lie.globals })
custom_lies size all customs.Shared parts after bytes lie s = absurd s
custom_lies size all customs.Other parts after bytes lie s = subst (LieIn size) (sym s) lie

kind_lies : (size : ℕ) (all : List SectionSpan) (relocs : List Reloc) (kind : SectionKind) (parts : Parts) (span : Span) (payload : List ℕ) (after : Parts)
    → LiesIn size span → length payload ≤ end_of span → LieIn size parts → AddsKind all relocs kind parts span payload after → LieIn size after
kind_lies size all relocs sections.Custom parts span payload after in_size le lie s = custom_lies size all (custom_kind_of s.0) parts after s.2 lie s.5
kind_lies size all relocs sections.Types parts span payload after in_size le lie s = subst (LieIn size) (sym s.2) (record { bodies = lie.bodies; segments = lie.segments; globals = lie.globals })
kind_lies size all relocs sections.Imports parts span payload after in_size le lie s = subst (LieIn size) (sym s.2) (record { bodies = lie.bodies; segments = lie.segments; globals = lie.globals })
kind_lies size all relocs sections.Functions parts span payload after in_size le lie s = subst (LieIn size) (sym s.2) (record { bodies = lie.bodies; segments = lie.segments; globals = lie.globals })
kind_lies size all relocs sections.Tables parts span payload after in_size le lie s = subst (LieIn size) (sym s.1) lie
kind_lies size all relocs sections.Memories parts span payload after in_size le lie s = subst (LieIn size) (sym s.1) lie
kind_lies size all relocs sections.Globals parts span payload after in_size le lie s =
    let here = entries_all SpellsGlobalDef stays (λ g. LiesIn (end_of span) g.span) (end_of span) (λ state g first rest t k. global_lies (end_of span) g first rest t k) tt s.0 payload le s.1 in
    subst (LieIn size) (sym s.2) (record { bodies = lie.bodies; segments = lie.segments; globals = All-weaker (λ g. LiesIn (end_of span) g.span) (λ g. LiesIn size g.span) (λ g k. omega arith) s.0 here })
kind_lies size all relocs sections.Exports parts span payload after in_size le lie s = subst (LieIn size) (sym s.2) (record { bodies = lie.bodies; segments = lie.segments; globals = lie.globals })
kind_lies size all relocs sections.Start parts span payload after in_size le lie s = absurd s
kind_lies size all relocs sections.Elements parts span payload after in_size le lie s = subst (LieIn size) (sym s.2) (record { bodies = lie.bodies; segments = lie.segments; globals = lie.globals })
kind_lies size all relocs sections.DataCount parts span payload after in_size le lie s = subst (LieIn size) (sym s.2) (record { bodies = lie.bodies; segments = lie.segments; globals = lie.globals })
kind_lies size all relocs sections.Code parts span payload after in_size le lie s =
    let here = entries_all (SpellsCodeBody span.start) (left_behind span.start) (λ b. LiesIn (end_of span) b.span) (end_of span) (λ state b first rest t k. body_lies span.start (end_of span) state b first rest t k) relocs s.0 payload le s.1 in
    subst (LieIn size) (sym s.2) (record { bodies = All-weaker (λ b. LiesIn (end_of span) b.span) (λ b. LiesIn size b.span) (λ b k. omega arith) s.0 here; segments = lie.segments; globals = lie.globals })
kind_lies size all relocs sections.Segments parts span payload after in_size le lie s =
    let here = entries_all SpellsDataPart stays (λ d. LiesIn (end_of span) d.span) (end_of span) (λ state d first rest t k. data_lies (end_of span) d first rest t k) tt s.0 payload le s.1 in
    subst (LieIn size) (sym s.2) (record { bodies = lie.bodies; segments = All-weaker (λ d. LiesIn (end_of span) d.span) (λ d. LiesIn size d.span) (λ d k. omega arith) s.0 here; globals = lie.globals })
kind_lies size all relocs sections.Tags parts span payload after in_size le lie s = absurd s

sections_lie : (size : ℕ) (all : List SectionSpan) (relocs : List Reloc) (bytes : List ℕ) (parts : Parts) (ss : List SectionSpan) (after : Parts)
    → All (λ s. LiesIn size s.payload) ss → LieIn size parts → AddInTurn all relocs bytes parts ss after → LieIn size after
sections_lie size all relocs bytes parts [] after fit lie s = subst (LieIn size) s lie
sections_lie size all relocs bytes parts (x ∷ xs) after fit lie s =
    let le : length (bytes_in bytes x.payload) ≤ end_of x.payload = omega (arith, length-take x.payload.len (drop x.payload.start bytes)) in
    sections_lie size all relocs bytes s.0 xs after (All-tail (λ t. LiesIn size t.payload) x xs fit)
    (kind_lies size all relocs (kind_of x.id) parts x.payload (bytes_in bytes x.payload) s.0 (All-head (λ t. LiesIn size t.payload) x xs fit) le lie s.1) s.2

none_lie : (size : ℕ) → LieIn size no_parts
none_lie size = record { bodies = All-nil (λ b. LiesIn size b.span); segments = All-nil (λ d. LiesIn size d.span); globals = All-nil (λ g. LiesIn size g.span) }

pub parts_lie : (all : List SectionSpan) (bytes : List ℕ) (r : Result Parts PartsFault) → All (λ s. LiesIn (length bytes) s.payload) all → GivesParts r (parts_of all bytes) → IfOk r (LieIn (length bytes))
parts_lie all bytes (Ok parts) fit given = sections_lie (length bytes) all (code_relocs all bytes all) bytes no_parts all parts fit (none_lie (length bytes)) (parts_found all bytes parts given)
parts_lie all bytes (Err e) fit given = tt
