-- The bytes of the first value of a global, in the object that was read, spell it.
use Rattle.std.proofs.Common.{◌≡◌, ℕ, ◌+◌, ◌≤◌, inl, inr, List, [], ◌∷◌, ◌++◌, length, take, drop, refl, sym, ap, subst, ◌∙◌, append_assoc, length-append, arith, Option, Some, None}
use Rattle.std.specs.Prelude.{All}
use Rattle.std.proofs.lemmas.List.Elements.{All-nil, All-cons}
use Rattle.std.proofs.lemmas.List.{append-nil, length-drop, length-take-le, take-append-drop, take_at, drop-drop, drop_at}
use Rattle.list_places.specs.Has.{Has}
use Rattle.list_places.proofs.Lists.{all_has}
use Rattle.object_rules.specs.wl_base.declared.span.Span.{Span}
use Rattle.object_rules.specs.wasm_types.Types.{SpellsConstExpr}
use Rattle.object_rules.specs.wasm_sections.declared.section.SectionSpan.{SectionSpan}
use Rattle.object_rules.specs.reloc_section.declared.entry.Reloc.{Reloc}
use Rattle.object_rules.specs.linking_section.declared.linking.Linking.{Linking}
use Rattle.object_rules.specs.object_parts.declared.kind.SectionKind.{SectionKind}
use Rattle.object_rules.specs.object_parts.declared.kind.SectionKind.TheVariants as sections
use Rattle.object_rules.specs.object_parts.declared.kind.CustomKind.{CustomKind}
use Rattle.object_rules.specs.object_parts.declared.kind.CustomKind.TheVariants as customs
use Rattle.object_rules.specs.object_parts.declared.parts.GlobalDef.{GlobalDef}
use Rattle.object_rules.specs.object_parts.declared.parts.Parts.{Parts}
use Rattle.object_rules.specs.object_parts.Kinds.{kind_of, custom_kind_of}
use Rattle.object_rules.specs.object_parts.Spans.{LiesIn}
use Rattle.object_rules.specs.object_parts.Placed.{span_between, stays, SpellsGlobalDef}
use Rattle.object_rules.specs.object_parts.Turns.{AreInTurn}
use Rattle.object_rules.specs.object_parts.Adding.{no_parts, with_linking, AddsCustom, AddsKind}
use Rattle.object_rules.specs.object_parts.Sections.{bytes_in, AddInTurn}
use Rattle.object_rules.specs.object_parts.Reading.{code_relocs}
use Rattle.object_file.specs.declared.object.Object.{Object}
use Rattle.object_file.specs.Objects.{object_from}
use Rattle.object_file.specs.ObjectOf.{IsObject}
use Rattle.object_file.proofs.Framed.{frame_fits}

-- ---- a part of a section's payload, by where it stands in the file

stands_between : (bytes front part rest : List ℕ) (span here : Span) → span.start + span.len ≤ length bytes → bytes_in bytes span ≡ front ++ (part ++ rest) → here ≡ span_between (span.start + span.len) (part ++ rest) rest
    → part ≡ bytes_in bytes here
stands_between bytes front part rest span here lies e is =
    let tail : List ℕ = drop span.len (drop span.start bytes) in
    let long : length (bytes_in bytes span) ≡ span.len = length-take-le span.len (drop span.start bytes) (omega (arith, lies, length-drop span.start bytes)) in
    let both : length (part ++ rest) ≡ length part + length rest = length-append part rest in
    let sum : length (bytes_in bytes span) ≡ length front + length (part ++ rest) = ap (λ (bs : List ℕ). length bs) e ∙ length-append front (part ++ rest) in
    let start : here.start ≡ span.start + length front = omega (arith, ap (λ (k : Span). k.start) is, long, sum) in
    let len : here.len ≡ length part = omega (arith, ap (λ (k : Span). k.len) is, both) in
    let file : drop span.start bytes ≡ front ++ (part ++ (rest ++ tail)) =
    sym (take-append-drop span.len (drop span.start bytes)) ∙ (ap (λ t. t ++ tail) e ∙ (append_assoc front (part ++ rest) tail ∙ ap (λ t. front ++ t) (append_assoc part rest tail))) in
    let behind : drop (span.start + length front) bytes ≡ part ++ (rest ++ tail) =
    sym (drop-drop (length front) span.start bytes) ∙ (ap (drop (length front)) file ∙ drop_at front (part ++ (rest ++ tail)) (length front) refl) in
    sym (ap (λ n. take n (drop here.start bytes)) len ∙ (ap (λ n. take (length part) (drop n bytes)) start ∙ (ap (take (length part)) behind ∙ take_at part (rest ++ tail) (length part) refl)))

-- ---- the globals of a section

abbrev pub IsSpelled : List ℕ → GlobalDef → Type 0
IsSpelled bytes g = SpellsConstExpr g.value (bytes_in bytes g.span)

in_turn : (bytes : List ℕ) (span : Span) (gs : List GlobalDef) (front text rest : List ℕ) → span.start + span.len ≤ length bytes → bytes_in bytes span ≡ front ++ (text ++ rest)
    → AreInTurn SpellsGlobalDef stays tt (span.start + span.len) gs text rest → All (IsSpelled bytes) gs
in_turn bytes span [] front text rest lies is s = All-nil (IsSpelled bytes)
in_turn bytes span (g ∷ gs) front text rest lies is s =
    let item = s.2 in
    let kind : List ℕ = item.0 in
    let value : List ℕ = item.1 in
    let behind : List ℕ = s.1 ++ rest in
    let first : bytes_in bytes span ≡ front ++ (s.0 ++ behind) = is ∙ (ap (λ t. front ++ (t ++ rest)) s.4 ∙ ap (λ t. front ++ t) (append_assoc s.0 s.1 rest)) in
    let own : bytes_in bytes span ≡ (front ++ kind) ++ (value ++ behind) =
    first ∙ (ap (λ t. front ++ (t ++ behind)) item.4 ∙ (ap (λ t. front ++ t) (append_assoc kind value behind) ∙ sym (append_assoc front kind (value ++ behind)))) in
    All-cons (IsSpelled bytes) g gs (subst (SpellsConstExpr g.value) (stands_between bytes (front ++ kind) value behind span g.span lies own item.5) item.3)
    (in_turn bytes span gs (front ++ s.0) s.1 rest lies (first ∙ sym (append_assoc front s.0 behind)) s.3)

-- ---- what the sections add

abbrev Told : List ℕ → Parts → Type 0
Told file p = All (IsSpelled file) p.globals

same_globals : (file : List ℕ) (before after : Parts) → after.globals ≡ before.globals → Told file before → Told file after
same_globals file before after e t = subst (All (IsSpelled file)) (sym e) t

linked : (before : Parts) (o : Option Linking) (l : Linking) → (with_linking before o l).globals ≡ before.globals
linked before None l = refl
linked before (Some x) l = refl

custom_told : (file : List ℕ) (all : List SectionSpan) (kind : CustomKind) (before : Parts) (bytes : List ℕ) (after : Parts) → AddsCustom all kind before bytes after → Told file before → Told file after
custom_told file all customs.Linking before bytes after s t = same_globals file before after (ap (λ (p : Parts). p.globals) s.2 ∙ linked before before.linking s.0) t
custom_told file all customs.Relocs before bytes after s t = same_globals file before after (ap (λ (p : Parts). p.globals) s.2) t
custom_told file all customs.Shared before bytes after s t = absurd s
custom_told file all customs.Other before bytes after s t = same_globals file before after (ap (λ (p : Parts). p.globals) s) t

kind_told : (file : List ℕ) (all : List SectionSpan) (relocs : List Reloc) (kind : SectionKind) (before : Parts) (span : Span) (payload : List ℕ) (after : Parts) → span.start + span.len ≤ length file
    → payload ≡ bytes_in file span → AddsKind all relocs kind before span payload after → Told file before → Told file after
kind_told file all relocs sections.Custom before span payload after lies is s t = custom_told file all (custom_kind_of s.0) before s.2 after s.5 t
kind_told file all relocs sections.Types before span payload after lies is s t = same_globals file before after (ap (λ (p : Parts). p.globals) s.2) t
kind_told file all relocs sections.Imports before span payload after lies is s t = same_globals file before after (ap (λ (p : Parts). p.globals) s.2) t
kind_told file all relocs sections.Functions before span payload after lies is s t = same_globals file before after (ap (λ (p : Parts). p.globals) s.2) t
kind_told file all relocs sections.Tables before span payload after lies is s t = same_globals file before after (ap (λ (p : Parts). p.globals) s.1) t
kind_told file all relocs sections.Memories before span payload after lies is s t = same_globals file before after (ap (λ (p : Parts). p.globals) s.1) t
kind_told file all relocs sections.Globals before span payload after lies is s t =
    subst (Told file) (sym s.2) (in_turn file span s.0 s.1.0 s.1.1 [] lies (sym is ∙ (s.1.4 ∙ ap (λ u. s.1.0 ++ u) (sym (append-nil s.1.1)))) s.1.3)
kind_told file all relocs sections.Exports before span payload after lies is s t = same_globals file before after (ap (λ (p : Parts). p.globals) s.2) t
kind_told file all relocs sections.Start before span payload after lies is s t = absurd s
kind_told file all relocs sections.Elements before span payload after lies is s t = same_globals file before after (ap (λ (p : Parts). p.globals) s.2) t
kind_told file all relocs sections.DataCount before span payload after lies is s t = same_globals file before after (ap (λ (p : Parts). p.globals) s.2) t
kind_told file all relocs sections.Code before span payload after lies is s t = same_globals file before after (ap (λ (p : Parts). p.globals) s.2) t
kind_told file all relocs sections.Segments before span payload after lies is s t = same_globals file before after (ap (λ (p : Parts). p.globals) s.2) t
kind_told file all relocs sections.Tags before span payload after lies is s t = absurd s

turns_told : (file : List ℕ) (all : List SectionSpan) (relocs : List Reloc) (before : Parts) (ss : List SectionSpan) (after : Parts) → ((s : SectionSpan) → Has ss s → LiesIn (length file) s.payload)
    → AddInTurn all relocs file before ss after → Told file before → Told file after
turns_told file all relocs before [] after fit s t = subst (Told file) s t
turns_told file all relocs before (x ∷ xs) after fit s t =
    turns_told file all relocs s.0 xs after (λ y h. fit y (inr h)) s.2 (kind_told file all relocs (kind_of x.id) before x.payload (bytes_in file x.payload) s.0 (fit x (inl refl)) refl s.1 t)

-- ---- the object

same_as_told : (input : ℕ) (all : List SectionSpan) (parts : Parts) → (object_from input all parts).globals ≡ parts.globals
unfolding object_from
same_as_told input all parts = refl

pub globals_spelled : (input : ℕ) (bytes : List ℕ) (o : Object) → IsObject input bytes o → All (IsSpelled bytes) o.globals
globals_spelled input bytes o is =
    let told = turns_told bytes is.sections (code_relocs is.sections bytes is.sections) no_parts is.sections is.parts (λ s h. all_has (λ (x : SectionSpan). LiesIn (length bytes) x.payload) is.sections (frame_fits is.sections bytes is.framed) s h) is.spelled (All-nil (IsSpelled bytes)) in
    subst (All (IsSpelled bytes)) (sym (ap (λ (x : Object). x.globals) is.is ∙ same_as_told input is.sections is.parts)) told
