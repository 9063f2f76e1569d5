-- Globals of an object that was read begin with constants.
use Rattle.std.proofs.Common.{◌≡◌, ℕ, List, [], ◌∷◌, refl, sym, ap, ◌∙◌, subst, inl, inr, Option, Some, None}
use Rattle.list_places.specs.Has.{Has}
use Rattle.wl_base.specs.declared.span.Span.{Span}
use Rattle.wasm_types.specs.declared.const_expr.ConstExpr.{ConstExpr}
use Rattle.wasm_types.specs.declared.const_expr.ConstExpr.TheVariants as exprs
use Rattle.wasm_types.specs.Types.{SpellsConstExpr}
use Rattle.wasm_sections.specs.declared.section.SectionSpan.{SectionSpan}
use Rattle.reloc_section.specs.declared.entry.Reloc.{Reloc}
use Rattle.linking_section.specs.declared.linking.Linking.{Linking}
use Rattle.object_parts.specs.declared.kind.SectionKind.{SectionKind}
use Rattle.object_parts.specs.declared.kind.SectionKind.TheVariants as sections
use Rattle.object_parts.specs.declared.kind.CustomKind.{CustomKind}
use Rattle.object_parts.specs.declared.kind.CustomKind.TheVariants as customs
use Rattle.object_parts.specs.declared.parts.GlobalDef.{GlobalDef}
use Rattle.object_parts.specs.declared.parts.Parts.{Parts}
use Rattle.object_parts.specs.Kinds.{kind_of, custom_kind_of}
use Rattle.object_parts.specs.Turns.{AreInTurn}
use Rattle.object_parts.specs.Placed.{SpellsGlobalDef, stays}
use Rattle.object_parts.specs.Adding.{no_parts, AddsKind, AddsCustom, with_linking}
use Rattle.object_parts.specs.Sections.{AddInTurn, bytes_in}
use Rattle.object_parts.specs.Reading.{code_relocs}
use Rattle.object_file.specs.declared.object.Object.{Object}
use Rattle.object_file.specs.Objects.{object_from}
use Rattle.object_file.specs.ObjectOf.{IsObject}
use Rattle.link_facts.specs.link_worlds.Sound.{IsConstant}
use Rattle.image_emit.specs.Spelled.{IsConstant as IsInRange}
use Rattle.link_runs.proofs.Leb.{in_range}

abbrev AreConstants : List GlobalDef → Type 0
AreConstants gs = (g : GlobalDef) → Has gs g → IsConstant g.value × IsInRange g.value

constant : (e : ConstExpr) (text : List ℕ) → SpellsConstExpr e text → IsConstant e
constant (exprs.I32 n) text s = tt
constant (exprs.I64 n) text s = tt
constant (exprs.Get index) text s = absurd s

all_constants : (end : ℕ) (gs : List GlobalDef) (text rest : List ℕ) → AreInTurn SpellsGlobalDef stays tt end gs text rest → AreConstants gs
all_constants end [] text rest s g h = absurd h
all_constants end (x ∷ gs) text rest s g (inl e) = subst (λ (y : GlobalDef). IsConstant y.value × IsInRange y.value) e (constant x.value s.2.1 s.2.3, in_range x.value s.2.1 s.2.3)
all_constants end (x ∷ gs) text rest s g (inr h) = all_constants end gs s.1 rest s.3 g h

same_globals : (before after : Parts) → after.globals ≡ before.globals → AreConstants before.globals → AreConstants after.globals
same_globals before after e a = subst AreConstants (sym e) a

linking_globals : (before : Parts) (o : Option Linking) (l : Linking) → (with_linking before o l).globals ≡ before.globals
linking_globals before None l = refl
linking_globals before (Some x) l = refl

custom_constants : (all : List SectionSpan) (k : CustomKind) (before : Parts) (bytes : List ℕ) (after : Parts) → AddsCustom all k before bytes after → AreConstants before.globals → AreConstants after.globals
custom_constants all customs.Linking before bytes after s a = same_globals before after (ap (λ (p : Parts). p.globals) s.2 ∙ linking_globals before before.linking s.0) a
custom_constants all customs.Relocs before bytes after s a = same_globals before after (ap (λ (p : Parts). p.globals) s.2) a
custom_constants all customs.Shared before bytes after s a = absurd s
custom_constants all customs.Other before bytes after s a = same_globals before after (ap (λ (p : Parts). p.globals) s) a

kind_constants : (all : List SectionSpan) (relocs : List Reloc) (k : SectionKind) (before : Parts) (span : Span) (payload : List ℕ) (after : Parts) → AddsKind all relocs k before span payload after → AreConstants before.globals → AreConstants after.globals
kind_constants all relocs sections.Custom before span payload after s a = custom_constants all (custom_kind_of s.0) before s.2 after s.5 a
kind_constants all relocs sections.Types before span payload after s a = same_globals before after (ap (λ (p : Parts). p.globals) s.2) a
kind_constants all relocs sections.Imports before span payload after s a = same_globals before after (ap (λ (p : Parts). p.globals) s.2) a
kind_constants all relocs sections.Functions before span payload after s a = same_globals before after (ap (λ (p : Parts). p.globals) s.2) a
kind_constants all relocs sections.Tables before span payload after s a = same_globals before after (ap (λ (p : Parts). p.globals) s.1) a
kind_constants all relocs sections.Memories before span payload after s a = same_globals before after (ap (λ (p : Parts). p.globals) s.1) a
kind_constants all relocs sections.Globals before span payload after s a = subst AreConstants (sym (ap (λ (p : Parts). p.globals) s.2)) (all_constants _ s.0 s.1.1 [] s.1.3)
kind_constants all relocs sections.Exports before span payload after s a = same_globals before after (ap (λ (p : Parts). p.globals) s.2) a
kind_constants all relocs sections.Start before span payload after s a = absurd s
kind_constants all relocs sections.Elements before span payload after s a = same_globals before after (ap (λ (p : Parts). p.globals) s.2) a
kind_constants all relocs sections.DataCount before span payload after s a = same_globals before after (ap (λ (p : Parts). p.globals) s.2) a
kind_constants all relocs sections.Code before span payload after s a = same_globals before after (ap (λ (p : Parts). p.globals) s.2) a
kind_constants all relocs sections.Segments before span payload after s a = same_globals before after (ap (λ (p : Parts). p.globals) s.2) a
kind_constants all relocs sections.Tags before span payload after s a = absurd s

turn_constants : (all : List SectionSpan) (relocs : List Reloc) (bytes : List ℕ) (before : Parts) (ss : List SectionSpan) (after : Parts) → AddInTurn all relocs bytes before ss after → AreConstants before.globals → AreConstants after.globals
turn_constants all relocs bytes before [] after s a = same_globals before after (ap (λ (p : Parts). p.globals) (sym s)) a
turn_constants all relocs bytes before (x ∷ ss) after s a =
    turn_constants all relocs bytes s.0 ss after s.2 (kind_constants all relocs (kind_of x.id) before x.payload (bytes_in bytes x.payload) s.0 s.1 a)

pub constants_of : (input : ℕ) (bytes : List ℕ) (o : Object) → IsObject input bytes o → (g : GlobalDef) → Has o.globals g → IsConstant g.value × IsInRange g.value
unfolding object_from
constants_of input bytes o is =
    subst (λ (x : Object). AreConstants x.globals) (sym is.is)
    (turn_constants is.sections (code_relocs is.sections bytes is.sections) bytes no_parts is.sections is.parts is.spelled (λ g h. absurd h))
