-- The names of an object that was read: what its sections spell of them.
use Rattle.std.proofs.Common.{◌≡◌, ℕ, Bool, true, false, not, List, [], ◌∷◌, refl, sym, ap, subst, ◌∙◌, Option, Some, None}
use Rattle.std.specs.Prelude.{All, slice_get}
use Rattle.std.proofs.lemmas.Bool.{and_parts}
use Rattle.std.proofs.lemmas.List.Elements.{All-nil, All-cons, All-map, All-weaker}
use Rattle.object_rules.specs.wl_base.declared.span.Span.{Span}
use Rattle.object_rules.specs.wasm_types.declared.import.Import.{Import}
use Rattle.object_rules.specs.wasm_types.declared.import.ImportKind.{ImportKind}
use Rattle.object_rules.specs.wasm_types.declared.import.ImportKind.TheVariants as kinds
use Rattle.object_rules.specs.wasm_sections.declared.section.SectionSpan.{SectionSpan}
use Rattle.object_rules.specs.reloc_section.declared.entry.Reloc.{Reloc}
use Rattle.object_rules.specs.linking_section.declared.symbol.Symbol.{Symbol}
use Rattle.object_rules.specs.linking_section.declared.symbol.SymbolKind.{SymbolKind}
use Rattle.object_rules.specs.linking_section.declared.symbol.SymbolKind.TheVariants.{Function, Datum, GlobalVar, Section, Table}
use Rattle.object_rules.specs.linking_section.declared.linking.Linking.{Linking}
use Rattle.object_rules.specs.linking_section.Flags.{is_named}
use Rattle.object_rules.specs.linking_section.Linking.{SpellsMaybe, SpellsBody, SpellsSymbol}
use Rattle.object_rules.specs.wasm_grammar.Subsections.{payloads_of}
use Rattle.object_rules.specs.object_parts.declared.kind.SectionKind.{SectionKind}
use Rattle.object_rules.specs.object_parts.declared.kind.SectionKind.TheVariants as sections
use Rattle.object_rules.specs.object_parts.declared.kind.CustomKind.{CustomKind}
use Rattle.object_rules.specs.object_parts.declared.kind.CustomKind.TheVariants as customs
use Rattle.object_rules.specs.object_parts.declared.imports.Seen.{Seen}
use Rattle.object_rules.specs.object_parts.declared.parts.Parts.{Parts}
use Rattle.object_rules.specs.object_parts.Kinds.{kind_of, custom_kind_of}
use Rattle.object_rules.specs.object_parts.Turns.{AreInTurn}
use Rattle.object_rules.specs.object_parts.Imports.{names_table, IsTaken, SpellsObjectImport, seen_import, none_seen}
use Rattle.object_rules.specs.object_parts.Adding.{no_parts, with_linking, end_of, AddsCustom, AddsKind}
use Rattle.object_rules.specs.object_parts.Sections.{bytes_in, AddInTurn}
use Rattle.object_rules.specs.object_parts.Reading.{code_relocs}
use Rattle.object_rules.specs.Spaces.{is_table, imports_of}
use Rattle.object_rules.specs.Symbols.{field_of, own_or, import_name, is_section}
use Rattle.object_file.specs.Objects.{with_name, linking_of, object_with, object_from}
use Rattle.object_file.proofs.Named.{said_all}
use Rattle.object_file.proofs.Agreed.{agreed_keeps}
use Rattle.object_file.proofs.Told.{LinkingTold}
use Rattle.object_file.proofs.Spelled.{all_fit}
use Rattle.partial_parts_laws.specs.SymbolsBack.{has_own_name, AreNamed}
use Rattle.partial_parts_laws.specs.NamedObjects.{ObjectsAreNamed}

no_true : false ≡ true → ⊥
no_true e = absurd cc

-- ---- imports

abbrev TableNamed : Import → Type 0
TableNamed i = is_table i.kind ≡ true → names_table i.«module» i.field ≡ true

table_taken : (seen : Seen) (from field : List ℕ) (kind : ImportKind) → IsTaken seen from field kind → is_table kind ≡ true → names_table from field ≡ true
table_taken seen from field (kinds.Function index) t e = absurd (no_true e)
table_taken seen from field (kinds.Table x) t e = (and_parts (names_table from field) (not seen.table) t.0).0
table_taken seen from field (kinds.Memory m) t e = absurd (no_true e)
table_taken seen from field (kinds.GlobalVar g) t e = absurd (no_true e)

imports_named : (end : ℕ) (seen : Seen) (xs : List Import) (text rest : List ℕ) → AreInTurn SpellsObjectImport seen_import seen end xs text rest → All TableNamed xs
imports_named end seen [] text rest s = All-nil TableNamed
imports_named end seen (x ∷ xs) text rest s = All-cons TableNamed x xs (table_taken seen x.«module» x.field x.kind s.2.1) (imports_named end (seen_import seen x) xs s.1 rest s.3)

-- ---- symbols

maybe_none : (q : Bool) (name : Option (List ℕ)) (text : List ℕ) → SpellsMaybe q name text → q ≡ false → name ≡ None
maybe_none true name text s e = absurd (no_true (sym e))
maybe_none false (Some name) text s e = absurd s
maybe_none false None text s e = refl

record SpelledName (s : Symbol) : Type 0 where
  section : is_section s.kind ≡ true → s.name ≡ None
  imported : has_own_name s.kind s.flags ≡ false → s.name ≡ None

spelled_name : (s : Symbol) (text : List ℕ) → SpellsSymbol s text → SpelledName s
spelled_name s text b = record { section = λ e. of_section s.kind b.3.1 b.3.3 e; imported = λ e. of_import s.kind b.3.1 b.3.3 e }
  where
    of_section : (k : SymbolKind) (bytes : List ℕ) → SpellsBody k s bytes → is_section k ≡ true → s.name ≡ None
    of_section Function bytes h e = absurd (no_true e)
    of_section Datum bytes h e = absurd (no_true e)
    of_section GlobalVar bytes h e = absurd (no_true e)
    of_section Section bytes h e = h.0
    of_section Table bytes h e = absurd (no_true e)

    of_import : (k : SymbolKind) (bytes : List ℕ) → SpellsBody k s bytes → has_own_name k s.flags ≡ false → s.name ≡ None
    of_import Function bytes h e = maybe_none (is_named s.flags) s.name h.2.1 h.2.3 e
    of_import Datum bytes h e = absurd (no_true (sym e))
    of_import GlobalVar bytes h e = maybe_none (is_named s.flags) s.name h.2.1 h.2.3 e
    of_import Section bytes h e = absurd (no_true (sym e))
    of_import Table bytes h e = maybe_none (is_named s.flags) s.name h.2.1 h.2.3 e

none_of_section : (imports : List Import) → imports_of Section imports ≡ []
none_of_section [] = refl
none_of_section (i ∷ is) = none_of_section is

section_name : (imports : List Import) (s : Symbol) (k : SymbolKind) → s.kind ≡ k → is_section k ≡ true → import_name imports s ≡ None
section_name imports s Function is e = absurd (no_true e)
section_name imports s Datum is e = absurd (no_true e)
section_name imports s GlobalVar is e = absurd (no_true e)
section_name imports s Section is e = ap (λ k. field_of (slice_get (imports_of k imports) s.index)) is ∙ ap (λ xs. field_of (slice_get xs s.index)) (none_of_section imports)
section_name imports s Table is e = absurd (no_true e)

-- ---- what the sections add

record AreTold (p : Parts) : Type 0 where
  tables : All TableNamed p.imports
  linking : LinkingTold p.linking

kept : (before after : Parts) → after.imports ≡ before.imports → after.linking ≡ before.linking → AreTold before → AreTold after
kept before after i l a = record { tables = subst (All TableNamed) (sym i) a.tables; linking = subst LinkingTold (sym l) a.linking }

linked : (before : Parts) (o : Option Linking) (l : Linking) → before.linking ≡ o → LinkingTold (Some l) → AreTold before → AreTold (with_linking before o l)
linked before None l e t a = record { tables = a.tables; linking = t }
linked before (Some x) l e t a = record { tables = a.tables; linking = a.linking }

custom_told : (all : List SectionSpan) (kind : CustomKind) (before : Parts) (bytes : List ℕ) (after : Parts) → AddsCustom all kind before bytes after → AreTold before → AreTold after
custom_told all customs.Linking before bytes after s a = subst AreTold (sym s.2) (linked before before.linking s.0 refl (bytes, s.1) a)
custom_told all customs.Relocs before bytes after s a = subst AreTold (sym s.2) (kept before _ refl refl a)
custom_told all customs.Shared before bytes after s a = absurd s
custom_told all customs.Other before bytes after s a = subst AreTold (sym s) a

kind_told : (all : List SectionSpan) (relocs : List Reloc) (kind : SectionKind) (before : Parts) (span : Span) (payload : List ℕ) (after : Parts) → AddsKind all relocs kind before span payload after → AreTold before → AreTold after
kind_told all relocs sections.Custom before span payload after s a = custom_told all (custom_kind_of s.0) before s.2 after s.5 a
kind_told all relocs sections.Types before span payload after s a = subst AreTold (sym s.2) (kept before _ refl refl a)
kind_told all relocs sections.Imports before span payload after s a = subst AreTold (sym s.2) (record { tables = imports_named (end_of span) none_seen s.0 s.1.1 [] s.1.3; linking = a.linking })
kind_told all relocs sections.Functions before span payload after s a = subst AreTold (sym s.2) (kept before _ refl refl a)
kind_told all relocs sections.Tables before span payload after s a = subst AreTold (sym s.1) a
kind_told all relocs sections.Memories before span payload after s a = subst AreTold (sym s.1) a
kind_told all relocs sections.Globals before span payload after s a = subst AreTold (sym s.2) (kept before _ refl refl a)
kind_told all relocs sections.Exports before span payload after s a = subst AreTold (sym s.2) (kept before _ refl refl a)
kind_told all relocs sections.Start before span payload after s a = absurd s
kind_told all relocs sections.Elements before span payload after s a = subst AreTold (sym s.2) (kept before _ refl refl a)
kind_told all relocs sections.DataCount before span payload after s a = subst AreTold (sym s.2) (kept before _ refl refl a)
kind_told all relocs sections.Code before span payload after s a = subst AreTold (sym s.2) (kept before _ refl refl a)
kind_told all relocs sections.Segments before span payload after s a = subst AreTold (sym s.2) (kept before _ refl refl a)
kind_told all relocs sections.Tags before span payload after s a = absurd s

turns_told : (all : List SectionSpan) (relocs : List Reloc) (bytes : List ℕ) (before : Parts) (ss : List SectionSpan) (after : Parts) → AddInTurn all relocs bytes before ss after → AreTold before → AreTold after
turns_told all relocs bytes before [] after s a = subst AreTold s a
turns_told all relocs bytes before (x ∷ xs) after s a =
    turns_told all relocs bytes s.0 xs after s.2 (kind_told all relocs (kind_of x.id) before x.payload (bytes_in bytes x.payload) s.0 s.1 a)

-- ---- the object

pub objects_are_named : ObjectsAreNamed
unfolding object_from
objects_are_named input bytes o is =
    let all : List SectionSpan = is.sections in
    let parts : Parts = is.parts in
    let found = agreed_keeps all bytes parts is.agrees in
    let l : Linking = found.0 in
    let told : AreTold parts = turns_told all (code_relocs all bytes all) bytes no_parts all parts is.spelled (record { tables = All-nil TableNamed; linking = tt }) in
    let spelled = subst LinkingTold found.1 told.linking in
    let names : All SpelledName l.symbols = all_fit SpellsSymbol SpelledName spelled_name l.symbols (said_all SpellsSymbol (payloads_of 8 spelled.1.subsections) l.symbols spelled.1.symbols) in
    let same : object_with input all parts l ≡ o = ap (λ (x : Option Linking). object_with input all parts (linking_of x)) (sym found.1) ∙ sym is.is in
    let imports : List Import = parts.imports in
    subst AreNamed same (record {
      sections = All-map (λ (s : Symbol). is_section s.kind ≡ true → s.name ≡ None) (with_name imports) l.symbols
          (All-weaker SpelledName (λ s. is_section s.kind ≡ true → own_or s.name (import_name imports s) ≡ None)
          (λ s n e. ap (λ (x : Option (List ℕ)). own_or x (import_name imports s)) (n.section e) ∙ section_name imports s s.kind refl e) l.symbols names);
      imported = All-map (λ (s : Symbol). has_own_name s.kind s.flags ≡ false → s.name ≡ import_name imports s) (with_name imports) l.symbols
          (All-weaker SpelledName (λ s. has_own_name s.kind s.flags ≡ false → own_or s.name (import_name imports s) ≡ import_name imports s)
          (λ s n e. ap (λ (x : Option (List ℕ)). own_or x (import_name imports s)) (n.imported e)) l.symbols names);
      tables = told.tables;
    })
