-- Relocations of an object that was read, whose types have no addend, have 0, and so have the operands that they are for.
use Rattle.std.proofs.Common.{◌≡◌, ℕ, Bool, true, false, List, [], ◌∷◌, get_or, inl, inr, sym, ap, subst, ◌∙◌, Option, Some, None, pos}
use Rattle.std.specs.Prelude.{All, ℤ, cond, ◌==◌}
use Rattle.std.proofs.lemmas.List.Elements.{All-nil, All-cons, All-head, All-tail, All-append}
use Rattle.list_places.specs.Has.{Has}
use Rattle.list_places.proofs.Lists.{all_has}
use Rattle.object_rules.specs.wl_base.declared.span.Span.{Span}
use Rattle.object_rules.specs.wasm_sections.declared.section.SectionSpan.{SectionSpan}
use Rattle.object_rules.specs.reloc_section.declared.entry.Reloc.{Reloc}
use Rattle.object_rules.specs.reloc_section.declared.section.RelocSection.{RelocSection}
use Rattle.object_rules.specs.reloc_section.Kinds.{has_addend}
use Rattle.object_rules.specs.reloc_section.Relocs.{SpellsAddend, SpellsReloc}
use Rattle.object_rules.specs.linking_section.declared.linking.Linking.{Linking}
use Rattle.object_rules.specs.body_windows.declared.operand.Operand.{Operand}
use Rattle.object_rules.specs.body_windows.declared.operand.Operand.TheVariants as operands
use Rattle.object_rules.specs.body_windows.declared.immediate.Immediate.{Immediate}
use Rattle.object_rules.specs.body_windows.Immediates.{operand_of}
use Rattle.object_rules.specs.object_parts.declared.kind.SectionKind.{SectionKind}
use Rattle.object_rules.specs.object_parts.declared.kind.SectionKind.TheVariants as sections
use Rattle.object_rules.specs.object_parts.declared.kind.CustomKind.{CustomKind}
use Rattle.object_rules.specs.object_parts.declared.kind.CustomKind.TheVariants as customs
use Rattle.object_rules.specs.object_parts.declared.parts.Parts.{Parts}
use Rattle.object_rules.specs.object_parts.Kinds.{kind_of, custom_kind_of}
use Rattle.object_rules.specs.object_parts.Adding.{no_parts, has_id, with_linking, SpellsRelocsFor, AddsCustom, AddsKind}
use Rattle.object_rules.specs.object_parts.Sections.{bytes_in, AddInTurn}
use Rattle.object_rules.specs.object_parts.Reading.{code_relocs}
use Rattle.object_rules.specs.Spaces.{counts_of}
use Rattle.object_rules.specs.Windows.{relocs_for}
use Rattle.name_rules.specs.object_file.object_columns.declared.functions.FunctionDef.{FunctionDef}
use Rattle.object_file.specs.declared.object.Object.{Object}
use Rattle.object_file.specs.Objects.{operands_of, linking_of, object_with, object_from}
use Rattle.object_file.specs.ObjectOf.{IsObject}
use Rattle.object_file.proofs.Agreed.{agreed_keeps}
use Rattle.object_file.proofs.Operated.{IsOfCode, operands_all}
use Rattle.object_file.proofs.Placing.{functions_all}
use Rattle.object_file.proofs.Targets.{code_relocs_are}
use Rattle.object_file.proofs.Told.{parts_told}
use Rattle.object_file.proofs.Spelled.{many_fit}
use Rattle.partial_parts_laws.specs.ReadOperands.{ReadHaveAddends}

-- ---- one relocation

abbrev HasAddend : Reloc → Type 0
HasAddend r = has_addend r.kind ≡ false → r.addend ≡ pos 0

spelled_addend : (q : Bool) (addend : ℤ) (text : List ℕ) → SpellsAddend q addend text → q ≡ false → addend ≡ pos 0
spelled_addend true addend text s e = absurd cc
spelled_addend false addend text s e = s.0

reloc_told : (r : Reloc) (text : List ℕ) → SpellsReloc r text → HasAddend r
reloc_told r text s = let addend = s.1.3.3 in spelled_addend (has_addend r.kind) r.addend addend.1 addend.3

-- ---- what the sections add

abbrev AreTold : Parts → Type 0
AreTold p = All (λ (s : RelocSection). All HasAddend s.entries) p.relocs

linked : (before : Parts) (o : Option Linking) (l : Linking) → AreTold before → AreTold (with_linking before o l)
linked before None l a = a
linked before (Some x) l a = a

entries_told : (q : Bool) (r : RelocSection) (text : List ℕ) → SpellsRelocsFor q r text → All HasAddend r.entries
entries_told true r text s = subst (All HasAddend) (sym s.3) (All-nil HasAddend)
entries_told false r text s = many_fit SpellsReloc HasAddend reloc_told r.entries s.3.1 s.3.3

custom_told : (all : List SectionSpan) (kind : CustomKind) (before : Parts) (bytes : List ℕ) (after : Parts) → AddsCustom all kind before bytes after → AreTold before → AreTold after
custom_told all customs.Linking before bytes after s a = subst AreTold (sym s.2) (linked before before.linking s.0 a)
custom_told all customs.Relocs before bytes after s a =
    subst AreTold (sym s.2) (All-append (λ (x : RelocSection). All HasAddend x.entries) before.relocs (s.0 ∷ []) a
    (All-cons (λ (x : RelocSection). All HasAddend x.entries) s.0 [] (entries_told (has_id 0 all s.0.target) s.0 bytes s.1) (All-nil (λ (x : RelocSection). All HasAddend x.entries))))
custom_told all customs.Shared before bytes after s a = absurd s
custom_told all customs.Other before bytes after s a = subst AreTold (sym s) a

kind_told : (all : List SectionSpan) (relocs : List Reloc) (kind : SectionKind) (before : Parts) (span : Span) (payload : List ℕ) (after : Parts) → AddsKind all relocs kind before span payload after → AreTold before → AreTold after
kind_told all relocs sections.Custom before span payload after s a = custom_told all (custom_kind_of s.0) before s.2 after s.5 a
kind_told all relocs sections.Types before span payload after s a = subst AreTold (sym s.2) a
kind_told all relocs sections.Imports before span payload after s a = subst AreTold (sym s.2) a
kind_told all relocs sections.Functions before span payload after s a = subst AreTold (sym s.2) a
kind_told all relocs sections.Tables before span payload after s a = subst AreTold (sym s.1) a
kind_told all relocs sections.Memories before span payload after s a = subst AreTold (sym s.1) a
kind_told all relocs sections.Globals before span payload after s a = subst AreTold (sym s.2) a
kind_told all relocs sections.Exports before span payload after s a = subst AreTold (sym s.2) a
kind_told all relocs sections.Start before span payload after s a = absurd s
kind_told all relocs sections.Elements before span payload after s a = subst AreTold (sym s.2) a
kind_told all relocs sections.DataCount before span payload after s a = subst AreTold (sym s.2) a
kind_told all relocs sections.Code before span payload after s a = subst AreTold (sym s.2) a
kind_told all relocs sections.Segments before span payload after s a = subst AreTold (sym s.2) a
kind_told all relocs sections.Tags before span payload after s a = absurd s

turns_told : (all : List SectionSpan) (relocs : List Reloc) (bytes : List ℕ) (before : Parts) (ss : List SectionSpan) (after : Parts) → AddInTurn all relocs bytes before ss after → AreTold before → AreTold after
turns_told all relocs bytes before [] after s a = subst AreTold s a
turns_told all relocs bytes before (x ∷ xs) after s a =
    turns_told all relocs bytes s.0 xs after s.2 (kind_told all relocs (kind_of x.id) before x.payload (bytes_in bytes x.payload) s.0 s.1 a)

section_told : (id : ℕ) (all : List SectionSpan) (rs : List RelocSection) → All (λ (r : RelocSection). All HasAddend r.entries) rs → All HasAddend (relocs_for id all rs)
section_told id all [] known = All-nil HasAddend
section_told id all (r ∷ rs) known = by (has_id id all r.target) (All-head (λ (x : RelocSection). All HasAddend x.entries) r rs known) (section_told id all rs (All-tail (λ (x : RelocSection). All HasAddend x.entries) r rs known))
  where
    by : (q : Bool) → All HasAddend r.entries → All HasAddend (relocs_for id all rs) → All HasAddend (cond q r.entries (relocs_for id all rs))
    by true here others = here
    by false here others = others

-- ---- operands

abbrev OperandTold : Operand → Type 0
OperandTold operands.Number = Unit {0}
OperandTold (operands.Symbol kind place symbol addend) = has_addend kind ≡ false → addend ≡ pos 0
OperandTold (operands.TypeRef place index) = Unit {0}
OperandTold operands.TableZero = Unit {0}

operand_told : (i : Immediate) (r : Reloc) → HasAddend r × IsOfCode r → OperandTold (operand_of i r)
operand_told i r is = by (r.kind == 6)
  where
    by : (q : Bool) → OperandTold (cond q (operands.TypeRef i.place r.index) (operands.Symbol r.kind i.place r.index r.addend))
    by true = tt
    by false = is.0

all_told : (input : ℕ) (bytes : List ℕ) (o : Object) → IsObject input bytes o → All (λ (f : FunctionDef). All OperandTold f.operands) o.functions
unfolding object_from
all_told input bytes o is =
    let all : List SectionSpan = is.sections in
    let parts : Parts = is.parts in
    let found = agreed_keeps all bytes parts is.agrees in
    let l : Linking = found.0 in
    let relocs : List Reloc = code_relocs all bytes all in
    let spelled : AreTold parts = turns_told all relocs bytes no_parts all parts is.spelled (All-nil (λ (r : RelocSection). All HasAddend r.entries)) in
    let known : All HasAddend relocs = subst (All HasAddend) (code_relocs_are all bytes parts is.spelled) (section_told 10 all parts.relocs spelled) in
    let told = parts_told relocs all bytes parts is.framed is.spelled in
    let code : All (λ b. All OperandTold (operands_of b.windows)) parts.bodies = λ k d lt. operands_all OperandTold HasAddend tt tt operand_told bytes relocs (get_or parts.bodies k d) known (told.bodies k d lt) in
    let same : object_with input all parts l ≡ o = ap (λ (x : Option Linking). object_with input all parts (linking_of x)) (sym found.1) ∙ sym is.is in
    subst (λ (x : Object). All (λ (f : FunctionDef). All OperandTold f.operands) x.functions) same
    (functions_all (λ (n : ℕ). Unit {0}) (λ b. All OperandTold (operands_of b.windows)) (λ (f : FunctionDef). All OperandTold f.operands) parts.exports
    (λ index i b x fits. fits) (counts_of all parts).imported_functions parts.functions parts.bodies (λ k d lt. tt) code)

pub read_have_addends : ReadHaveAddends
read_have_addends input bytes o is z hz f hf kind place symbol addend has =
    all_has OperandTold f.operands (all_has (λ (x : FunctionDef). All OperandTold x.operands) o.functions (all_told input bytes o is) f (in_object z hz hf)) (operands.Symbol kind place symbol addend) has
  where
    in_object : (x : Object) → Has (o ∷ []) x → Has x.functions f → Has o.functions f
    in_object x (inl e) h = subst (λ (y : Object). Has y.functions f) (sym e) h
    in_object x (inr n) h = absurd n
