-- What the sections of an object spell has a spelling: names are UTF-8, flags known, numbers in range.
use Rattle.std.proofs.Common.{◌≡◌, ℕ, zero, suc, Bool, true, false, cond, not, List, [], ◌∷◌, get_or, refl, sym, ap, subst, ◌∙◌, Option, Some, None, pos, arith}
use Rattle.std.specs.Prelude.{All, IfSome, IsUtf8, slice_get, ◌==◌, ◌&&◌, ℤ}
use Rattle.std.proofs.lemmas.Int.{ints}
use Rattle.std.specs.List.{prefix_len}
use Rattle.std.proofs.lemmas.Str.{IsUtf8-nil}
use Rattle.std.proofs.lemmas.List.Elements.{All-nil, All-cons, All-head, All-tail, All-append, All-map, All-weaker, All-take, All-drop, All-filter}
use Rattle.object_rules.specs.wl_base.declared.span.Span.{Span}
use Rattle.object_rules.proofs.wasm_grammar_lemmas.leb_codec_lemmas.Ranges.{u32_range, s32_range, s64_range}
use Rattle.object_rules.specs.wasm_grammar.Grammar.{SpellsU32, SpellsMany}
use Rattle.object_rules.specs.wasm_types.declared.import.Import.{Import}
use Rattle.object_rules.specs.wasm_types.declared.import.ImportKind.{ImportKind}
use Rattle.object_rules.specs.wasm_types.declared.import.ImportKind.TheVariants as kinds
use Rattle.object_rules.specs.wasm_types.declared.const_expr.ConstExpr.{ConstExpr}
use Rattle.object_rules.specs.wasm_types.declared.const_expr.ConstExpr.TheVariants as exprs
use Rattle.object_rules.specs.wasm_types.Types.{SpellsBounds, SpellsImportKind, SpellsImport, SpellsConstExpr}
use Rattle.object_rules.specs.wasm_module.declared.parts.Export.{Export}
use Rattle.object_rules.specs.wasm_module.Parts.{SpellsExport}
use Rattle.object_rules.specs.wasm_sections.declared.section.SectionSpan.{SectionSpan}
use Rattle.object_rules.specs.reloc_section.declared.entry.Reloc.{Reloc}
use Rattle.object_rules.specs.reloc_section.declared.section.RelocSection.{RelocSection}
use Rattle.object_rules.specs.reloc_section.Kinds.{has_addend}
use Rattle.object_rules.specs.reloc_section.Relocs.{SpellsAddend, SpellsReloc}
use Rattle.object_rules.specs.linking_section.declared.segment.SegmentInfo.{SegmentInfo}
use Rattle.object_rules.specs.linking_section.declared.init.InitFunc.{InitFunc}
use Rattle.object_rules.specs.linking_section.declared.group.Member.{Member}
use Rattle.object_rules.specs.linking_section.declared.group.Group.{Group}
use Rattle.object_rules.specs.linking_section.declared.symbol.Symbol.{Symbol}
use Rattle.object_rules.specs.linking_section.declared.symbol.SymbolKind.{SymbolKind}
use Rattle.object_rules.specs.linking_section.declared.symbol.SymbolKind.TheVariants.{Function, Datum, GlobalVar, Section, Table}
use Rattle.object_rules.specs.linking_section.declared.linking.Linking.{Linking}
use Rattle.object_rules.specs.linking_section.Flags.{is_named, is_undefined}
use Rattle.object_rules.specs.linking_section.Linking.{SpellsMaybe, SpellsExtent, SpellsBody, SpellsSymbol, SpellsSegmentInfo, SpellsInit, SpellsMember, SpellsGroup}
use Rattle.object_rules.specs.wasm_grammar.Subsections.{payloads_of}
use Rattle.object_rules.specs.body_windows.declared.immediate.Immediate.{Immediate}
use Rattle.object_rules.specs.body_windows.Immediates.{operand_of}
use Rattle.object_rules.specs.body_windows.declared.operand.Operand.TheVariants as operands
use Rattle.object_rules.specs.object_parts.declared.kind.SectionKind.{SectionKind}
use Rattle.object_rules.specs.object_parts.declared.kind.SectionKind.TheVariants as sections
use Rattle.object_rules.specs.object_parts.declared.kind.CustomKind.{CustomKind}
use Rattle.object_rules.specs.object_parts.declared.kind.CustomKind.TheVariants as customs
use Rattle.object_rules.specs.object_parts.declared.imports.Seen.{Seen}
use Rattle.object_rules.specs.object_parts.declared.parts.GlobalDef.{GlobalDef}
use Rattle.object_rules.specs.object_parts.declared.parts.DataPart.{DataPart}
use Rattle.object_rules.specs.object_parts.declared.parts.Parts.{Parts}
use Rattle.object_rules.specs.object_parts.Kinds.{kind_of, custom_kind_of}
use Rattle.object_rules.specs.object_parts.Turns.{AreInTurn}
use Rattle.object_rules.specs.object_parts.Imports.{SpellsObjectImport, seen_import, none_seen}
use Rattle.object_rules.specs.object_parts.Placed.{SpellsGlobalDef, stays}
use Rattle.object_rules.specs.object_parts.Code.{begins_before, before, behind, end_in, base_in}
use Rattle.object_rules.specs.object_parts.Adding.{no_parts, has_id, with_linking, with_relocs, end_of, SpellsRelocsFor, AddsCustom, AddsKind}
use Rattle.object_rules.specs.object_parts.Sections.{bytes_in, AddInTurn}
use Rattle.object_rules.specs.object_parts.Reading.{code_relocs}
use Rattle.object_rules.specs.Spaces.{is_of, imports_of, counts_of}
use Rattle.object_rules.specs.Symbols.{field_of, own_or, import_name}
use Rattle.object_rules.specs.Windows.{relocs_for, start_of}
use Rattle.object_file.specs.declared.object.Object.{Object}
use Rattle.object_file.specs.Objects.{first_info, other_infos, window_from, segments_from, last_name, operands_of, with_name, linking_of, object_with, object_from}
use Rattle.object_file.specs.ObjectOf.{IsObject}
use Rattle.object_file.specs.Spellable.{IsU32, IsS32, IsName, IsImportKind, IsImport, IsNumber, IsOperand, IsFunction, IsReloc, IsInfo, IsSegment, HasPlace, IsSymbol, IsInit, IsMember, IsGroup, IsSpellable}
use Rattle.object_file.proofs.Named.{many_all, said_all}
use Rattle.object_file.proofs.Operated.{IsOfCode, operands_all}
use Rattle.object_file.proofs.Agreed.{agreed_keeps}
use Rattle.object_file.proofs.Placing.{functions_all}
use Rattle.object_file.proofs.Targets.{code_relocs_are}
use Rattle.object_file.proofs.Told.{LinkingTold, parts_told}

-- ---- items

limits_fit : (min : ℕ) (max : Option ℕ) (text : List ℕ) → SpellsBounds min max text → IsU32 min × IfSome max IsU32
limits_fit min None text s = (u32_range min s.1 s.3, tt)
limits_fit min (Some max) text s = (u32_range min s.3.0 s.3.2, u32_range max s.3.1 s.3.3)

import_kind : (kind : ImportKind) (text : List ℕ) → SpellsImportKind kind text → IsImportKind kind
import_kind (kinds.Function index) text s = u32_range index s.1 s.3
import_kind (kinds.Table t) text s = limits_fit t.limits.min t.limits.max s.3.1 s.3.3
import_kind (kinds.Memory l) text s = limits_fit l.min l.max s.1 s.3
import_kind (kinds.GlobalVar t) text s = tt

import_fits : (i : Import) (text : List ℕ) → SpellsImport i text → IsImport i
import_fits i text s = record { from = s.2.0; field = s.3.2.0; kind = import_kind i.kind s.3.1 s.3.3 }

number_fits : (e : ConstExpr) (text : List ℕ) → SpellsConstExpr e text → IsNumber e
number_fits (exprs.I32 n) text s = s32_range n s.3.0 s.3.2
number_fits (exprs.I64 n) text s = s64_range n s.3.0 s.3.2
number_fits (exprs.Get index) text s = absurd s

addend_fits : (q : Bool) (addend : ℤ) (text : List ℕ) → SpellsAddend q addend text → IsS32 addend × (q ≡ false → addend ≡ pos 0)
addend_fits true addend text s = (s32_range addend text s, λ e. absurd cc)
addend_fits false addend text s = (subst IsS32 (sym s.0) (omega (arith, ints), omega (arith, ints)), λ e. s.0)

reloc_fits : (r : Reloc) (text : List ℕ) → SpellsReloc r text → IsReloc r
reloc_fits r text s =
    let offset = s.1.3 in
    let index = offset.3 in
    let addend = addend_fits (has_addend r.kind) r.addend index.1 index.3 in
    record { kind = s.0; offset = u32_range r.offset offset.0 offset.2; index = u32_range r.index index.0 index.2; addend = addend.0; none = addend.1 }

info_fits : (i : SegmentInfo) (text : List ℕ) → SpellsSegmentInfo i text → IsInfo i
info_fits i text s = record { name = s.2.0; align = u32_range i.align s.3.0 s.3.2; flags = u32_range i.flags s.3.1 s.3.3.1; known = s.3.3.0 }

init_fits : (i : InitFunc) (text : List ℕ) → SpellsInit i text → IsInit i
init_fits i text s = record { priority = u32_range i.priority s.0 s.2; symbol = u32_range i.symbol s.1 s.3 }

member_fits : (m : Member) (text : List ℕ) → SpellsMember m text → IsMember m
member_fits m text s = record { kind = s.0; index = u32_range m.index s.1.1 s.1.3 }

-- what each item fits, all of a list that is spelled do
module _ {A : Type 0} (Item : A → List ℕ → Type 0) (P : A → Type 0) (each : (x : A) (text : List ℕ) → Item x text → P x) where
  pub many_fit : (xs : List A) (text : List ℕ) → SpellsMany Item xs text → All P xs
  many_fit xs text s = All-weaker (λ x. (t : List ℕ) × Item x t) P (λ x t. each x t.0 t.1) xs (many_all Item xs text s)

  pub all_fit : (xs : List A) → All (λ x. (t : List ℕ) × Item x t) xs → All P xs
  all_fit xs a = All-weaker (λ x. (t : List ℕ) × Item x t) P (λ x t. each x t.0 t.1) xs a

group_fits : (g : Group) (text : List ℕ) → SpellsGroup g text → IsGroup g
group_fits g text s = record { name = s.2.0; members = many_fit SpellsMember IsMember member_fits g.members s.3.3.1 s.3.3.3 }

-- ---- symbols

-- A symbol by what it spells, but for its name.
abbrev Placed : Symbol → Type 0
Placed s = IsU32 s.index × IsU32 s.offset × IsU32 s.size × HasPlace s.kind s

maybe_name : (q : Bool) (name : Option (List ℕ)) (text : List ℕ) → SpellsMaybe q name text → IsName name
maybe_name true (Some name) text s = s.0
maybe_name true None text s = absurd s
maybe_name false (Some name) text s = absurd s
maybe_name false None text s = tt

own_name : (kind : SymbolKind) (s : Symbol) (text : List ℕ) → SpellsBody kind s text → IsName s.name
own_name Function s text b = maybe_name (is_named s.flags) s.name b.2.1 b.2.3
own_name Datum s text b = maybe_name true s.name b.0 b.2
own_name GlobalVar s text b = maybe_name (is_named s.flags) s.name b.2.1 b.2.3
own_name Section s text b = subst IsName (sym b.0) tt
own_name Table s text b = maybe_name (is_named s.flags) s.name b.2.1 b.2.3

zero_fits : (n : ℕ) → n ≡ 0 → IsU32 n
zero_fits n e = omega (arith, e)

extent_fits : (q : Bool) (segment offset size : ℕ) (text : List ℕ) → SpellsExtent (not q) (record { segment = segment; offset = offset; size = size }) text
    → IsU32 segment × IsU32 offset × IsU32 size × (q ≡ true → (segment ≡ 0) × (offset ≡ 0) × (size ≡ 0))
extent_fits true segment offset size text s = (zero_fits segment s.0, zero_fits offset s.1, zero_fits size s.2, λ q. (s.0, s.1, s.2))
extent_fits false segment offset size text s = (u32_range segment s.0 s.2, u32_range offset s.3.0 s.3.2, u32_range size s.3.1 s.3.3, λ q. absurd cc)

placed : (kind : SymbolKind) (s : Symbol) (text : List ℕ) → SpellsBody kind s text → IsU32 s.index × IsU32 s.offset × IsU32 s.size × HasPlace kind s
placed Function s text b = (u32_range s.index b.2.0 b.2.2, zero_fits s.offset b.0, zero_fits s.size b.1, (b.0, b.1))
placed Datum s text b = extent_fits (is_undefined s) s.index s.offset s.size b.1 b.3
placed GlobalVar s text b = (u32_range s.index b.2.0 b.2.2, zero_fits s.offset b.0, zero_fits s.size b.1, (b.0, b.1))
placed Section s text b = (u32_range s.index text b.3, zero_fits s.offset b.1, zero_fits s.size b.2, (b.1, b.2))
placed Table s text b = (u32_range s.index b.2.0 b.2.2, zero_fits s.offset b.0, zero_fits s.size b.1, (b.0, b.1))

symbol_fits : (s : Symbol) (text : List ℕ) → SpellsSymbol s text → IsSymbol s
symbol_fits s text b =
    let body = placed s.kind s b.3.1 b.3.3 in
    record {
      flags = u32_range s.flags b.3.0 b.3.2.1;
      known = b.3.2.0;
      name = own_name s.kind s b.3.1 b.3.3;
      index = body.0;
      offset = body.1;
      size = body.2;
      place = body.3;
    }

-- a symbol with another name
renamed : (kind : SymbolKind) (imports : List Import) (s : Symbol) → HasPlace kind s → HasPlace kind (with_name imports s)
renamed Function imports s p = p
renamed Datum imports s p = p
renamed GlobalVar imports s p = p
renamed Section imports s p = p
renamed Table imports s p = p

field_named : (found : Option Import) → IfSome found IsImport → IsName (field_of found)
field_named None known = tt
field_named (Some i) known = known.field

either_name : (a b : Option (List ℕ)) → IsName a → IsName b → IsName (own_or a b)
either_name (Some name) b own other = own
either_name None b own other = other

got : {A : Type 0} (P : A → Type 0) (xs : List A) (k : ℕ) → All P xs → IfSome (slice_get xs k) P
got P [] k known = tt
got P (x ∷ xs) zero known = All-head P x xs known
got P (x ∷ xs) (suc k) known = got P xs k (All-tail P x xs known)

with_name_fits : (imports : List Import) → All IsImport imports → (s : Symbol) → IsSymbol s → IsSymbol (with_name imports s)
with_name_fits imports known s is = record {
  flags = is.flags;
  known = is.known;
  name = either_name s.name (import_name imports s) is.name (field_named (slice_get (imports_of s.kind imports) s.index) (got IsImport (imports_of s.kind imports) s.index (All-filter (λ i. is_of s.kind i.kind) IsImport imports known)));
  index = is.index;
  offset = is.offset;
  size = is.size;
  place = renamed s.kind imports s is.place;
}

-- ---- what the sections add

record PartsFit (p : Parts) : Type 0 where
  imports : All IsImport p.imports
  functions : All IsU32 p.functions
  globals : All (λ g. IsNumber g.value) p.globals
  exports : All (λ e. IsUtf8 e.name) p.exports
  linking : LinkingTold p.linking
  relocs : All (λ r. All IsReloc r.entries) p.relocs

imports_fit : (end : ℕ) (seen : Seen) (xs : List Import) (text rest : List ℕ) → AreInTurn SpellsObjectImport seen_import seen end xs text rest → All IsImport xs
imports_fit end seen [] text rest s = All-nil IsImport
imports_fit end seen (x ∷ xs) text rest s = All-cons IsImport x xs (import_fits x s.0 s.2.0) (imports_fit end (seen_import seen x) xs s.1 rest s.3)

globals_fit : (end : ℕ) (xs : List GlobalDef) (text rest : List ℕ) → AreInTurn SpellsGlobalDef stays tt end xs text rest → All (λ g. IsNumber g.value) xs
globals_fit end [] text rest s = All-nil (λ g. IsNumber g.value)
globals_fit end (x ∷ xs) text rest s = All-cons (λ g. IsNumber g.value) x xs (number_fits x.value s.2.1 s.2.3) (globals_fit end xs s.1 rest s.3)

entries_fit : (q : Bool) (r : RelocSection) (text : List ℕ) → SpellsRelocsFor q r text → All IsReloc r.entries
entries_fit true r text s = subst (All IsReloc) (sym s.3) (All-nil IsReloc)
entries_fit false r text s = many_fit SpellsReloc IsReloc reloc_fits r.entries s.3.1 s.3.3

-- what keeps all of it
kept : (before after : Parts) → after.imports ≡ before.imports → after.functions ≡ before.functions → after.globals ≡ before.globals → after.exports ≡ before.exports → after.linking ≡ before.linking → after.relocs ≡ before.relocs → PartsFit before → PartsFit after
kept before after i f g e l r a = record {
  imports = subst (All IsImport) (sym i) a.imports;
  functions = subst (All IsU32) (sym f) a.functions;
  globals = subst (All (λ x. IsNumber x.value)) (sym g) a.globals;
  exports = subst (All (λ x. IsUtf8 x.name)) (sym e) a.exports;
  linking = subst LinkingTold (sym l) a.linking;
  relocs = subst (All (λ x. All IsReloc x.entries)) (sym r) a.relocs;
}

linked : (before : Parts) (o : Option Linking) (l : Linking) → before.linking ≡ o → LinkingTold (Some l) → PartsFit before → PartsFit (with_linking before o l)
linked before None l e t a = record { imports = a.imports; functions = a.functions; globals = a.globals; exports = a.exports; linking = t; relocs = a.relocs }
linked before (Some x) l e t a = record { imports = a.imports; functions = a.functions; globals = a.globals; exports = a.exports; linking = a.linking; relocs = a.relocs }

relocated : (before : Parts) (r : RelocSection) → All IsReloc r.entries → PartsFit before → PartsFit (with_relocs before r)
relocated before r known a = record {
  imports = a.imports;
  functions = a.functions;
  globals = a.globals;
  exports = a.exports;
  linking = a.linking;
  relocs = All-append (λ x. All IsReloc x.entries) before.relocs (r ∷ []) a.relocs (All-cons (λ x. All IsReloc x.entries) r [] known (All-nil (λ x. All IsReloc x.entries)));
}

custom_fits : (all : List SectionSpan) (kind : CustomKind) (before : Parts) (bytes : List ℕ) (after : Parts) → AddsCustom all kind before bytes after → PartsFit before → PartsFit after
custom_fits all customs.Linking before bytes after s a = subst PartsFit (sym s.2) (linked before before.linking s.0 refl (bytes, s.1) a)
custom_fits all customs.Relocs before bytes after s a = subst PartsFit (sym s.2) (relocated before s.0 (entries_fit (has_id 0 all s.0.target) s.0 bytes s.1) a)
custom_fits all customs.Shared before bytes after s a = absurd s
custom_fits all customs.Other before bytes after s a = subst PartsFit (sym s) a

kind_fits : (all : List SectionSpan) (relocs : List Reloc) (kind : SectionKind) (before : Parts) (span : Span) (payload : List ℕ) (after : Parts) → AddsKind all relocs kind before span payload after → PartsFit before → PartsFit after
kind_fits all relocs sections.Custom before span payload after s a = custom_fits all (custom_kind_of s.0) before s.2 after s.5 a
kind_fits all relocs sections.Types before span payload after s a = subst PartsFit (sym s.2) (kept before _ refl refl refl refl refl refl a)
kind_fits all relocs sections.Imports before span payload after s a =
    subst PartsFit (sym s.2) (record { imports = imports_fit (end_of span) none_seen s.0 s.1.1 [] s.1.3; functions = a.functions; globals = a.globals; exports = a.exports; linking = a.linking; relocs = a.relocs })
kind_fits all relocs sections.Functions before span payload after s a =
    subst PartsFit (sym s.2) (record { imports = a.imports; functions = many_fit SpellsU32 IsU32 u32_range s.0 s.1.1 s.1.3; globals = a.globals; exports = a.exports; linking = a.linking; relocs = a.relocs })
kind_fits all relocs sections.Tables before span payload after s a = subst PartsFit (sym s.1) a
kind_fits all relocs sections.Memories before span payload after s a = subst PartsFit (sym s.1) a
kind_fits all relocs sections.Globals before span payload after s a =
    subst PartsFit (sym s.2) (record { imports = a.imports; functions = a.functions; globals = globals_fit (end_of span) s.0 s.1.1 [] s.1.3; exports = a.exports; linking = a.linking; relocs = a.relocs })
kind_fits all relocs sections.Exports before span payload after s a =
    subst PartsFit (sym s.2) (record { imports = a.imports; functions = a.functions; globals = a.globals; exports = many_fit SpellsExport (λ e. IsUtf8 e.name) (λ e text t. t.2.0) s.0 s.1.1 s.1.3; linking = a.linking; relocs = a.relocs })
kind_fits all relocs sections.Start before span payload after s a = absurd s
kind_fits all relocs sections.Elements before span payload after s a = subst PartsFit (sym s.2) (kept before _ refl refl refl refl refl refl a)
kind_fits all relocs sections.DataCount before span payload after s a = subst PartsFit (sym s.2) (kept before _ refl refl refl refl refl refl a)
kind_fits all relocs sections.Code before span payload after s a = subst PartsFit (sym s.2) (kept before _ refl refl refl refl refl refl a)
kind_fits all relocs sections.Segments before span payload after s a = subst PartsFit (sym s.2) (kept before _ refl refl refl refl refl refl a)
kind_fits all relocs sections.Tags before span payload after s a = absurd s

turns_fit : (all : List SectionSpan) (relocs : List Reloc) (bytes : List ℕ) (before : Parts) (ss : List SectionSpan) (after : Parts) → AddInTurn all relocs bytes before ss after → PartsFit before → PartsFit after
turns_fit all relocs bytes before [] after s a = subst PartsFit s a
turns_fit all relocs bytes before (x ∷ xs) after s a =
    turns_fit all relocs bytes s.0 xs after s.2 (kind_fits all relocs (kind_of x.id) before x.payload (bytes_in bytes x.payload) s.0 s.1 a)

none_fit : PartsFit no_parts
none_fit = record {
  imports = All-nil IsImport;
  functions = All-nil IsU32;
  globals = All-nil (λ g. IsNumber g.value);
  exports = All-nil (λ e. IsUtf8 e.name);
  linking = tt;
  relocs = All-nil (λ r. All IsReloc r.entries);
}

-- ---- the object

last_named : (index : ℕ) (es : List Export) (name : Option (List ℕ)) → All (λ e. IsUtf8 e.name) es → IsName name → IsName (last_name index es name)
last_named index [] name known n = n
last_named index (e ∷ es) name known n =
    last_named index es (cond ((e.kind == 0) && (e.index == index)) (Some e.name) name) (All-tail (λ x. IsUtf8 x.name) e es known) (either ((e.kind == 0) && (e.index == index)))
  where
    either : (q : Bool) → IsName (cond q (Some e.name) name)
    either true = All-head (λ x. IsUtf8 x.name) e es known
    either false = n

relocs_fit : (id : ℕ) (all : List SectionSpan) (rs : List RelocSection) → All (λ r. All IsReloc r.entries) rs → All IsReloc (relocs_for id all rs)
relocs_fit id all [] known = All-nil IsReloc
relocs_fit id all (r ∷ rs) known = by (has_id id all r.target) (All-head (λ x. All IsReloc x.entries) r rs known) (relocs_fit id all rs (All-tail (λ x. All IsReloc x.entries) r rs known))
  where
    by : (q : Bool) → All IsReloc r.entries → All IsReloc (relocs_for id all rs) → All IsReloc (cond q r.entries (relocs_for id all rs))
    by true here others = here
    by false here others = others

moved : (base : ℕ) (r : Reloc) → IsReloc r → IsReloc (window_from base r)
moved base r is = record { kind = is.kind; offset = omega (arith, is.offset); index = is.index; addend = is.addend; none = is.none }

first_fits : (infos : List SegmentInfo) → All IsInfo infos → IsInfo (first_info infos)
first_fits [] known = record { name = IsUtf8-nil; align = omega arith; flags = omega arith; known = refl }
first_fits (i ∷ is) known = All-head IsInfo i is known

others_fit : (infos : List SegmentInfo) → All IsInfo infos → All IsInfo (other_infos infos)
others_fit [] known = known
others_fit (i ∷ is) known = All-tail IsInfo i is known

segments_fit : (start : ℕ) (relocs : List Reloc) (infos : List SegmentInfo) (ds : List DataPart) → All IsReloc relocs → All IsInfo infos → All IsSegment (segments_from start relocs infos ds)
segments_fit start relocs infos [] known told = All-nil IsSegment
segments_fit start relocs infos (d ∷ ds) known told =
    let n : ℕ = prefix_len (begins_before (end_in start d.span)) relocs in
    All-cons IsSegment _ (segments_from start (behind (end_in start d.span) relocs) (other_infos infos) ds)
    (record {
      info = first_fits infos told;
      windows = All-map IsReloc (window_from (base_in start d.span)) (before (end_in start d.span) relocs) (All-weaker IsReloc (λ r. IsReloc (window_from (base_in start d.span) r)) (moved (base_in start d.span)) (before (end_in start d.span) relocs) (All-take IsReloc n relocs known));
    })
    (segments_fit start (behind (end_in start d.span) relocs) (other_infos infos) ds (All-drop IsReloc n relocs known) (others_fit infos told))

operand_fits : (i : Immediate) (r : Reloc) → IsReloc r × IsOfCode r → IsOperand (operand_of i r)
operand_fits i r is = by (r.kind == 6)
  where
    by : (q : Bool) → IsOperand (cond q (operands.TypeRef i.place r.index) (operands.Symbol r.kind i.place r.index r.addend))
    by true = is.0.index
    by false = (is.0.index, is.0.addend)

pub read_is_spellable : (input : ℕ) (bytes : List ℕ) (o : Object) → IsObject input bytes o → IsSpellable o
unfolding object_from
read_is_spellable input bytes o is =
    let all : List SectionSpan = is.sections in
    let parts : Parts = is.parts in
    let linked = agreed_keeps all bytes parts is.agrees in
    let l : Linking = linked.0 in
    let relocs : List Reloc = code_relocs all bytes all in
    let fit : PartsFit parts = turns_fit all relocs bytes no_parts all parts is.spelled none_fit in
    let told = parts_told relocs all bytes parts is.framed is.spelled in
    let spelled = subst LinkingTold linked.1 fit.linking in
    let t = spelled.1 in
    let known : All IsReloc relocs = subst (All IsReloc) (code_relocs_are all bytes parts is.spelled) (relocs_fit 10 all parts.relocs fit.relocs) in
    let operands : All (λ b. All IsOperand (operands_of b.windows)) parts.bodies = λ k d lt. operands_all IsOperand IsReloc tt tt operand_fits bytes relocs (get_or parts.bodies k d) known (told.bodies k d lt) in
    let same : object_with input all parts l ≡ o = ap (λ (x : Option Linking). object_with input all parts (linking_of x)) (sym linked.1) ∙ sym is.is in
    subst IsSpellable same (record {
      imports = fit.imports;
      functions = functions_all IsU32 (λ b. All IsOperand (operands_of b.windows)) IsFunction parts.exports
          (λ index i b i_fits b_fits. record { type_index = i_fits; export_name = last_named index parts.exports None fit.exports tt; operands = b_fits })
          (counts_of all parts).imported_functions parts.functions parts.bodies fit.functions operands;
      globals = fit.globals;
      segments = segments_fit (start_of 11 all) (relocs_for 11 all parts.relocs) l.segments parts.segments (relocs_fit 11 all parts.relocs fit.relocs)
          (all_fit SpellsSegmentInfo IsInfo info_fits l.segments (said_all SpellsSegmentInfo (payloads_of 5 t.subsections) l.segments t.segments));
      symbols = All-map IsSymbol (with_name parts.imports) l.symbols
          (All-weaker IsSymbol (λ s. IsSymbol (with_name parts.imports s)) (with_name_fits parts.imports fit.imports) l.symbols
          (all_fit SpellsSymbol IsSymbol symbol_fits l.symbols (said_all SpellsSymbol (payloads_of 8 t.subsections) l.symbols t.symbols)));
      inits = all_fit SpellsInit IsInit init_fits l.inits (said_all SpellsInit (payloads_of 6 t.subsections) l.inits t.inits);
      groups = all_fit SpellsGroup IsGroup group_fits l.groups (said_all SpellsGroup (payloads_of 7 t.subsections) l.groups t.groups);
    })
