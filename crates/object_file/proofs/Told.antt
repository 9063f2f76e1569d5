-- What the sections of an object tell of its bodies and its linking metadata.
use Rattle.std.proofs.Common.{◌≡◌, ℕ, ◌+◌, ◌≤◌, List, [], ◌∷◌, ◌++◌, length, take, drop, refl, sym, ap, subst, ◌∙◌, append_assoc, arith, Option, Some, None}
use Rattle.std.specs.Prelude.{All, Contains}
use Rattle.std.specs.List.{prefix_len}
use Rattle.std.proofs.lemmas.List.Elements.{All-nil, All-cons, All-head, All-tail, All-take, All-drop, All-contains_itself}
use Rattle.std.proofs.lemmas.List.{append-nil, length-append, length-drop, length-take-le, take-append-drop, take_at, drop-drop, drop_at}
use Rattle.object_rules.specs.wl_base.declared.span.Span.{Span}
use Rattle.object_rules.specs.wasm_instr.declared.body.Body.{Body}
use Rattle.object_rules.specs.wasm_instr.Bodies.{SpellsBody}
use Rattle.object_rules.specs.wasm_sections.declared.section.SectionSpan.{SectionSpan}
use Rattle.object_rules.specs.reloc_section.declared.entry.Reloc.{Reloc}
use Rattle.object_rules.specs.linking_section.declared.linking.Linking.{Linking}
use Rattle.object_rules.specs.linking_section.Linking.{SpellsLinking}
use Rattle.object_rules.specs.body_windows.Windows.{windows_of}
use Rattle.object_rules.specs.object_parts.declared.kind.SectionKind.{SectionKind}
use Rattle.object_rules.specs.object_parts.declared.kind.SectionKind.TheVariants as sections
use Rattle.object_rules.specs.object_parts.declared.kind.CustomKind.{CustomKind}
use Rattle.object_rules.specs.object_parts.declared.kind.CustomKind.TheVariants as customs
use Rattle.object_rules.specs.object_parts.declared.parts.CodeBody.{CodeBody}
use Rattle.object_rules.specs.object_parts.declared.parts.Parts.{Parts}
use Rattle.object_rules.specs.object_parts.Kinds.{kind_of, custom_kind_of}
use Rattle.object_rules.specs.object_parts.Spans.{LiesIn}
use Rattle.object_rules.specs.object_parts.Placed.{span_before}
use Rattle.object_rules.specs.object_parts.Turns.{Spelling, AreInTurn}
use Rattle.object_rules.specs.object_parts.Code.{begins_before, before, base_in, end_in, left_behind, SpellsCodeBody}
use Rattle.object_rules.specs.object_parts.Adding.{no_parts, with_linking, AddsCustom, AddsKind}
use Rattle.object_rules.specs.object_parts.Sections.{bytes_in, AddInTurn}
use Rattle.object_rules.specs.wasm_sections.Sections.{IsFrame}
use Rattle.object_rules.specs.Windows.{start_of}
use Rattle.object_file.proofs.Framed.{CodeBegins, frame_fits, code_begins}

-- A body that was read from bytes, with some of the relocations, whose offsets count from a place.
pub record BodyTold (begin : ℕ) (bytes : List ℕ) (relocs : List Reloc) (b : CodeBody) : Type 0 where
  pub body : Body
  pub text : List ℕ
  pub base : ℕ
  pub some : List Reloc
  pub spelled : SpellsBody body text
  pub long : length text ≡ b.span.len
  pub stands : text ≡ bytes_in bytes b.span
  pub of : All (Contains relocs) some
  pub windows : b.windows ≡ windows_of base some body
  pub from : begin + base ≡ b.span.start

abbrev pub LinkingTold : Option Linking → Type 0
LinkingTold None = Unit {0}
LinkingTold (Some l) = (text : List ℕ) × SpellsLinking l text

pub record Told (begin : ℕ) (bytes : List ℕ) (relocs : List Reloc) (parts : Parts) : Type 0 where
  pub bodies : All (BodyTold begin bytes relocs) parts.bodies
  pub linking : LinkingTold parts.linking

-- what holds of each item, in each state and behind what stands before it, holds of all
module _ {S A : Type 0} (Item : Spelling S A) (next : S → A → S) (Q : S → Type 0) (P : A → Type 0) (end : ℕ) (whole : List ℕ)
    (stays : (state : S) (x : A) → Q state → Q (next state x))
    (each : (state : S) (x : A) (front first rest : List ℕ) → Q state → whole ≡ front ++ (first ++ rest) → Item state end x first rest → P x) where
  turn_all : (state : S) (xs : List A) (front text rest : List ℕ) → Q state → whole ≡ front ++ (text ++ rest) → AreInTurn Item next state end xs text rest → All P xs
  turn_all state [] front text rest q is s = All-nil P
  turn_all state (x ∷ xs) front text rest q is s =
      let first : whole ≡ front ++ (s.0 ++ (s.1 ++ rest)) = is ∙ ap (λ t. front ++ (t ++ rest)) s.4 ∙ ap (λ t. front ++ t) (append_assoc s.0 s.1 rest) in
      All-cons P x xs (each state x front s.0 (s.1 ++ rest) q first s.2)
      (turn_all (next state x) xs (front ++ s.0) s.1 rest (stays state x q) (first ∙ sym (append_assoc front s.0 (s.1 ++ rest))) s.3)

-- a part of a section's payload, by where it stands in the file
stands_at : (bytes front part rest : List ℕ) (span here : Span) → span.start + span.len ≤ length bytes → bytes_in bytes span ≡ front ++ (part ++ rest) → here ≡ span_before (span.start + span.len) (length part) rest
    → part ≡ bytes_in bytes here
stands_at bytes front part rest span here lies e is =
    let payload : List ℕ = bytes_in bytes span in
    let tail : List ℕ = drop span.len (drop span.start bytes) in
    let long : length payload ≡ span.len = length-take-le span.len (drop span.start bytes) (omega (arith, lies, length-drop span.start bytes)) in
    let sum : length payload ≡ length front + (length part + length rest) = ap length e ∙ length-append front (part ++ rest) ∙ ap (λ n. length front + n) (length-append part rest) in
    let start : here.start ≡ span.start + length front = omega (arith, ap (λ (k : Span). k.start) is, long, sum) in
    let len : here.len ≡ length part = ap (λ (k : Span). k.len) is in
    let file : drop span.start bytes ≡ front ++ (part ++ (rest ++ tail)) =
    sym (take-append-drop span.len (drop span.start bytes)) ∙ ap (λ t. t ++ tail) e ∙ append_assoc front (part ++ rest) tail ∙ ap (λ t. front ++ t) (append_assoc part rest tail) in
    let behind : drop (span.start + length front) bytes ≡ part ++ (rest ++ tail) =
    sym (drop-drop (length front) span.start bytes) ∙ ap (drop (length front)) file ∙ drop_at front (part ++ (rest ++ tail)) (length front) refl in
    sym (ap (λ n. take n (drop here.start bytes)) len ∙ ap (λ n. take (length part) (drop n bytes)) start ∙ ap (take (length part)) behind ∙ take_at part (rest ++ tail) (length part) refl)

-- a part of a payload begins behind the payload's start
based : (front part rest bytes : List ℕ) (span here : Span) → span.start + span.len ≤ length bytes → bytes_in bytes span ≡ front ++ (part ++ rest) → here ≡ span_before (span.start + span.len) (length part) rest
    → span.start + base_in span.start here ≡ here.start
based front part rest bytes span here lies e is =
    let long : length (bytes_in bytes span) ≡ span.len = length-take-le span.len (drop span.start bytes) (omega (arith, lies, length-drop span.start bytes)) in
    let sum : length (bytes_in bytes span) ≡ length front + (length part + length rest) = ap length e ∙ length-append front (part ++ rest) ∙ ap (λ n. length front + n) (length-append part rest) in
    let start : here.start ≡ span.start + length front = omega (arith, ap (λ (k : Span). k.start) is, long, sum) in
    omega (arith, start)

body_told : (bytes : List ℕ) (relocs : List Reloc) (span : Span) (left : List Reloc) (b : CodeBody) (front first rest : List ℕ) → span.start + span.len ≤ length bytes → All (Contains relocs) left
    → bytes_in bytes span ≡ front ++ (first ++ rest) → SpellsCodeBody span.start left (span.start + span.len) b first rest → BodyTold span.start bytes relocs b
body_told bytes relocs span left b front first rest lies of e s =
    let behind_size : bytes_in bytes span ≡ (front ++ s.1) ++ (s.2 ++ rest) =
    e ∙ ap (λ t. front ++ (t ++ rest)) s.5 ∙ ap (λ t. front ++ t) (append_assoc s.1 s.2 rest) ∙ sym (append_assoc front s.1 (s.2 ++ rest)) in
    record {
      body = s.0;
      text = s.2;
      base = base_in span.start b.span;
      some = before (end_in span.start b.span) left;
      spelled = s.4;
      long = sym (ap (λ (k : Span). k.len) s.6);
      stands = stands_at bytes (front ++ s.1) s.2 rest span b.span lies behind_size s.6;
      of = All-take (Contains relocs) (prefix_len (begins_before (end_in span.start b.span)) left) left of;
      windows = s.7;
      from = based (front ++ s.1) s.2 rest bytes span b.span lies behind_size s.6;
    }

custom_told : (begin : ℕ) (file : List ℕ) (relocs : List Reloc) (all : List SectionSpan) (kind : CustomKind) (parts after : Parts) (bytes : List ℕ) → Told begin file relocs parts → AddsCustom all kind parts bytes after → Told begin file relocs after
custom_told begin file relocs all customs.Linking parts after bytes t s = subst (Told begin file relocs) (sym s.2) (linked parts.linking t.linking)
  where
    linked : (first : Option Linking) → LinkingTold first → Told begin file relocs (with_linking parts first s.0)
    linked None told = record { bodies = t.bodies; linking = (bytes, s.1) }
    linked (Some l) told = record { bodies = t.bodies; linking = t.linking }
custom_told begin file relocs all customs.Relocs parts after bytes t s = subst (Told begin file relocs) (sym s.2) (record { bodies = t.bodies; linking = t.linking })
custom_told begin file relocs all customs.Shared parts after bytes t s = absurd s
custom_told begin file relocs all customs.Other parts after bytes t s = subst (Told begin file relocs) (sym s) t

kind_told : (begin : ℕ) (file : List ℕ) (relocs : List Reloc) (all : List SectionSpan) (kind : SectionKind) (parts : Parts) (span : Span) (payload : List ℕ) (after : Parts) → span.start + span.len ≤ length file → payload ≡ bytes_in file span → Told begin file relocs parts → (kind ≡ sections.Code → span.start ≡ begin) → AddsKind all relocs kind parts span payload after → Told begin file relocs after
kind_told begin file relocs all sections.Custom parts span payload after lies is t at s = custom_told begin file relocs all (custom_kind_of s.0) parts after s.2 t s.5
kind_told begin file relocs all sections.Types parts span payload after lies is t at s = subst (Told begin file relocs) (sym s.2) (record { bodies = t.bodies; linking = t.linking })
kind_told begin file relocs all sections.Imports parts span payload after lies is t at s = subst (Told begin file relocs) (sym s.2) (record { bodies = t.bodies; linking = t.linking })
kind_told begin file relocs all sections.Functions parts span payload after lies is t at s = subst (Told begin file relocs) (sym s.2) (record { bodies = t.bodies; linking = t.linking })
kind_told begin file relocs all sections.Tables parts span payload after lies is t at s = subst (Told begin file relocs) (sym s.1) t
kind_told begin file relocs all sections.Memories parts span payload after lies is t at s = subst (Told begin file relocs) (sym s.1) t
kind_told begin file relocs all sections.Globals parts span payload after lies is t at s = subst (Told begin file relocs) (sym s.2) (record { bodies = t.bodies; linking = t.linking })
kind_told begin file relocs all sections.Exports parts span payload after lies is t at s = subst (Told begin file relocs) (sym s.2) (record { bodies = t.bodies; linking = t.linking })
kind_told begin file relocs all sections.Start parts span payload after lies is t at s = absurd s
kind_told begin file relocs all sections.Elements parts span payload after lies is t at s = subst (Told begin file relocs) (sym s.2) (record { bodies = t.bodies; linking = t.linking })
kind_told begin file relocs all sections.DataCount parts span payload after lies is t at s = subst (Told begin file relocs) (sym s.2) (record { bodies = t.bodies; linking = t.linking })
kind_told begin file relocs all sections.Code parts span payload after lies is t at s =
    let here = turn_all (SpellsCodeBody span.start) (left_behind span.start) (All (Contains relocs)) (BodyTold span.start file relocs) (span.start + span.len) payload
    (λ left b of. All-drop (Contains relocs) (prefix_len (begins_before (end_in span.start b.span)) left) left of)
    (λ left b front first rest of e k. body_told file relocs span left b front first rest lies of (sym is ∙ e) k) relocs s.0 s.1.0 s.1.1 [] (All-contains_itself relocs)
    (s.1.4 ∙ ap (λ u. s.1.0 ++ u) (sym (append-nil s.1.1))) s.1.3 in
    subst (Told begin file relocs) (sym s.2) (record { bodies = subst (λ n. All (BodyTold n file relocs) s.0) (at refl) here; linking = t.linking })
kind_told begin file relocs all sections.Segments parts span payload after lies is t at s = subst (Told begin file relocs) (sym s.2) (record { bodies = t.bodies; linking = t.linking })
kind_told begin file relocs all sections.Tags parts span payload after lies is t at s = absurd s

sections_told : (begin : ℕ) (relocs : List Reloc) (all : List SectionSpan) (bytes : List ℕ) (parts : Parts) (ss : List SectionSpan) (after : Parts) → All (λ s. LiesIn (length bytes) s.payload × CodeBegins begin s) ss → Told begin bytes relocs parts
    → AddInTurn all relocs bytes parts ss after → Told begin bytes relocs after
sections_told begin relocs all bytes parts [] after fit t s = subst (Told begin bytes relocs) s t
sections_told begin relocs all bytes parts (x ∷ xs) after fit t s =
    let here = All-head (λ s. LiesIn (length bytes) s.payload × CodeBegins begin s) x xs fit in
    sections_told begin relocs all bytes s.0 xs after (All-tail (λ s. LiesIn (length bytes) s.payload × CodeBegins begin s) x xs fit)
    (kind_told begin bytes relocs all (kind_of x.id) parts x.payload (bytes_in bytes x.payload) s.0 here.0 refl t here.1 s.1) s.2

pub parts_told : (relocs : List Reloc) (all : List SectionSpan) (bytes : List ℕ) (parts : Parts) → IsFrame all bytes → AddInTurn all relocs bytes no_parts all parts → Told (start_of 10 all) bytes relocs parts
parts_told relocs all bytes parts framed s =
    sections_told (start_of 10 all) relocs all bytes no_parts all parts (λ k d lt. (frame_fits all bytes framed k d lt, code_begins all bytes framed k d lt))
    (record { bodies = All-nil (BodyTold (start_of 10 all) bytes relocs); linking = tt }) s
