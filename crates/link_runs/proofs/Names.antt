-- The names of an object that was read are UTF-8.
use Rattle.std.proofs.Common.{◌≡◌, ℕ, ◌+◌, List, [], ◌∷◌, map, refl, sym, ap, subst, inl, inr, Option, Some, None, Bool, true, false}
use Rattle.std.specs.Prelude.{IsUtf8, slice_get, cond, ◌==◌, ◌&&◌}
use Rattle.list_places.specs.Has.{Has}
use Rattle.list_places.proofs.Lists.{has_at, has_map, has_filter, all_has}
use Rattle.wl_base.specs.declared.span.Span.{Span}
use Rattle.wasm_grammar.specs.Grammar.{SpellsMany}
use Rattle.wasm_types.specs.declared.import.Import.{Import}
use Rattle.wasm_module.specs.declared.parts.Export.{Export}
use Rattle.wasm_module.specs.Parts.{SpellsExport}
use Rattle.wasm_sections.specs.declared.section.SectionSpan.{SectionSpan}
use Rattle.reloc_section.specs.declared.entry.Reloc.{Reloc}
use Rattle.linking_section.specs.declared.linking.Linking.{Linking}
use Rattle.linking_section.specs.declared.symbol.Symbol.{Symbol}
use Rattle.linking_section.specs.declared.symbol.SymbolKind.{SymbolKind}
use Rattle.linking_section.specs.declared.symbol.SymbolKind.TheVariants.{Function, Datum, GlobalVar, Section, Table}
use Rattle.linking_section.specs.Flags.{is_named}
use Rattle.linking_section.specs.Linking.{SpellsMaybe, SpellsBody, SpellsSymbol}
use Rattle.object_columns.specs.declared.functions.FunctionDef.{FunctionDef}
use Rattle.object_parts.specs.declared.kind.SectionKind.{SectionKind}
use Rattle.object_parts.specs.declared.kind.SectionKind.TheVariants as sections
use Rattle.object_parts.specs.declared.kind.CustomKind.{CustomKind}
use Rattle.object_parts.specs.declared.kind.CustomKind.TheVariants as customs
use Rattle.object_parts.specs.declared.parts.CodeBody.{CodeBody}
use Rattle.object_parts.specs.declared.parts.Parts.{Parts}
use Rattle.object_parts.specs.declared.imports.Seen.{Seen}
use Rattle.object_parts.specs.Kinds.{kind_of, custom_kind_of}
use Rattle.object_parts.specs.Turns.{AreInTurn}
use Rattle.object_parts.specs.Imports.{SpellsObjectImport, seen_import, none_seen}
use Rattle.object_parts.specs.Adding.{no_parts, AddsKind, AddsCustom, with_linking}
use Rattle.object_parts.specs.Sections.{AddInTurn, bytes_in}
use Rattle.object_parts.specs.Reading.{code_relocs}
use Rattle.object_rules.specs.Spaces.{imports_of, counts_of}
use Rattle.object_rules.specs.Symbols.{field_of, own_or, import_name}
use Rattle.object_file.specs.declared.object.Object.{Object}
use Rattle.object_file.specs.Objects.{object_from, linking_of, with_name, last_name, functions_from}
use Rattle.object_file.specs.ObjectOf.{IsObject}
use Rattle.object_file.proofs.Told.{LinkingTold}
use Rattle.object_file.proofs.Named.{symbols_spelled}

abbrev pub ImportNamed : Import → Type 0
ImportNamed i = IsUtf8 i.«module» × IsUtf8 i.field

-- a name, where there is one
abbrev pub IsName : Option (List ℕ) → Type 0
IsName None = Unit {0}
IsName (Some name) = IsUtf8 name

record PartsNamed (p : Parts) : Type 0 where
  imports : (i : Import) → Has p.imports i → ImportNamed i
  exports : (e : Export) → Has p.exports e → IsUtf8 e.name
  linking : LinkingTold p.linking

all_imports : (end : ℕ) (seen : Seen) (xs : List Import) (text rest : List ℕ) → AreInTurn SpellsObjectImport seen_import seen end xs text rest → (i : Import) → Has xs i → ImportNamed i
all_imports end seen [] text rest s i h = absurd h
all_imports end seen (x ∷ xs) text rest s i (inl e) = subst ImportNamed e (s.2.0.2.0, s.2.0.3.2.0)
all_imports end seen (x ∷ xs) text rest s i (inr h) = all_imports end (seen_import seen x) xs s.1 rest s.3 i h

all_exports : (xs : List Export) (text : List ℕ) → SpellsMany SpellsExport xs text → (e : Export) → Has xs e → IsUtf8 e.name
all_exports [] text s e h = absurd h
all_exports (x ∷ xs) text s e (inl q) = subst (λ (y : Export). IsUtf8 y.name) q s.2.2.0
all_exports (x ∷ xs) text s e (inr h) = all_exports xs s.1 s.3 e h

with_imports : (before : Parts) (xs : List Import) → PartsNamed before → ((i : Import) → Has xs i → ImportNamed i) → PartsNamed (record before { imports = xs })
with_imports before xs a n = record { imports = n; exports = a.exports; linking = a.linking }

with_exports : (before : Parts) (xs : List Export) → PartsNamed before → ((e : Export) → Has xs e → IsUtf8 e.name) → PartsNamed (record before { exports = xs })
with_exports before xs a n = record { imports = a.imports; exports = n; linking = a.linking }

-- what keeps all three
kept : (before after : Parts) → after.imports ≡ before.imports → after.exports ≡ before.exports → after.linking ≡ before.linking → PartsNamed before → PartsNamed after
kept before after i e l a = record {
  imports = λ x h. a.imports x (subst (λ xs. Has xs x) i h);
  exports = λ x h. a.exports x (subst (λ xs. Has xs x) e h);
  linking = subst LinkingTold (sym l) a.linking;
}

linked : (before : Parts) (o : Option Linking) (l : Linking) → before.linking ≡ o → LinkingTold (Some l) → PartsNamed before → PartsNamed (with_linking before o l)
linked before None l e t a = record { imports = a.imports; exports = a.exports; linking = t }
linked before (Some x) l e t a = record { imports = a.imports; exports = a.exports; linking = a.linking }

custom_named : (all : List SectionSpan) (k : CustomKind) (before : Parts) (bytes : List ℕ) (after : Parts) → AddsCustom all k before bytes after → PartsNamed before → PartsNamed after
custom_named all customs.Linking before bytes after s a = subst PartsNamed (sym s.2) (linked before before.linking s.0 refl (bytes, s.1) a)
custom_named all customs.Relocs before bytes after s a = kept before after (ap (λ (p : Parts). p.imports) s.2) (ap (λ (p : Parts). p.exports) s.2) (ap (λ (p : Parts). p.linking) s.2) a
custom_named all customs.Shared before bytes after s a = absurd s
custom_named all customs.Other before bytes after s a = subst PartsNamed (sym s) a

same_names : (before after made : Parts) → after ≡ made → made.imports ≡ before.imports → made.exports ≡ before.exports → made.linking ≡ before.linking → PartsNamed before → PartsNamed after
same_names before after made e i x l a = subst PartsNamed (sym e) (kept before made i x l a)

kind_named : (all : List SectionSpan) (relocs : List Reloc) (k : SectionKind) (before : Parts) (span : Span) (payload : List ℕ) (after : Parts) → AddsKind all relocs k before span payload after → PartsNamed before → PartsNamed after
kind_named all relocs sections.Custom before span payload after s a = custom_named all (custom_kind_of s.0) before s.2 after s.5 a
kind_named all relocs sections.Types before span payload after s a = same_names before after _ s.2 refl refl refl a
kind_named all relocs sections.Imports before span payload after s a = subst PartsNamed (sym s.2) (with_imports before s.0 a (all_imports _ none_seen s.0 s.1.1 [] s.1.3))
kind_named all relocs sections.Functions before span payload after s a = same_names before after _ s.2 refl refl refl a
kind_named all relocs sections.Tables before span payload after s a = same_names before after _ s.1 refl refl refl a
kind_named all relocs sections.Memories before span payload after s a = same_names before after _ s.1 refl refl refl a
kind_named all relocs sections.Globals before span payload after s a = same_names before after _ s.2 refl refl refl a
kind_named all relocs sections.Exports before span payload after s a = subst PartsNamed (sym s.2) (with_exports before s.0 a (all_exports s.0 s.1.1 s.1.3))
kind_named all relocs sections.Start before span payload after s a = absurd s
kind_named all relocs sections.Elements before span payload after s a = same_names before after _ s.2 refl refl refl a
kind_named all relocs sections.DataCount before span payload after s a = same_names before after _ s.2 refl refl refl a
kind_named all relocs sections.Code before span payload after s a = same_names before after _ s.2 refl refl refl a
kind_named all relocs sections.Segments before span payload after s a = same_names before after _ s.2 refl refl refl a
kind_named all relocs sections.Tags before span payload after s a = absurd s

turn_named : (all : List SectionSpan) (relocs : List Reloc) (bytes : List ℕ) (before : Parts) (ss : List SectionSpan) (after : Parts) → AddInTurn all relocs bytes before ss after → PartsNamed before → PartsNamed after
turn_named all relocs bytes before [] after s a = subst PartsNamed s a
turn_named all relocs bytes before (x ∷ ss) after s a =
    turn_named all relocs bytes s.0 ss after s.2 (kind_named all relocs (kind_of x.id) before x.payload (bytes_in bytes x.payload) s.0 s.1 a)

-- ---- symbols

maybe_name : (b : Bool) (o : Option (List ℕ)) (text : List ℕ) → SpellsMaybe b o text → IsName o
maybe_name true (Some name) text s = s.0
maybe_name true None text s = absurd s
maybe_name false (Some name) text s = absurd s
maybe_name false None text s = tt

own_name : (kind : SymbolKind) (s : Symbol) (text : List ℕ) → SpellsBody kind s text → IsName s.name
own_name Function s text b = maybe_name (is_named s.flags) s.name b.2.1 b.2.3
own_name Datum s text b = maybe_name true s.name b.0 b.2
own_name GlobalVar s text b = maybe_name (is_named s.flags) s.name b.2.1 b.2.3
own_name Section s text b = subst IsName (sym b.0) tt
own_name Table s text b = maybe_name (is_named s.flags) s.name b.2.1 b.2.3

field_named : (o : Option Import) → ((i : Import) → o ≡ Some i → ImportNamed i) → IsName (field_of o)
field_named None h = tt
field_named (Some i) h = (h i refl).1

either_name : (a b : Option (List ℕ)) → IsName a → IsName b → IsName (own_or a b)
either_name (Some n) b x y = x
either_name None b x y = y

-- ---- functions

last_named : (index : ℕ) (es : List Export) (o : Option (List ℕ)) → ((e : Export) → Has es e → IsUtf8 e.name) → IsName o → IsName (last_name index es o)
last_named index [] o h n = n
last_named index (e ∷ es) o h n = last_named index es (cond ((e.kind == 0) && (e.index == index)) (Some e.name) o) (λ x m. h x (inr m)) (either ((e.kind == 0) && (e.index == index)))
  where
    either : (b : Bool) → IsName (cond b (Some e.name) o)
    either true = h e (inl refl)
    either false = n

functions_named : (es : List Export) (index : ℕ) (ts : List ℕ) (bs : List CodeBody) → ((e : Export) → Has es e → IsUtf8 e.name) → (f : FunctionDef) → Has (functions_from es index ts bs) f → IsName f.export_name
functions_named es index [] bs h f m = absurd m
functions_named es index (t ∷ ts) [] h f m = absurd m
functions_named es index (t ∷ ts) (b ∷ bs) h f (inl e) = subst (λ (x : FunctionDef). IsName x.export_name) e (last_named index es None h tt)
functions_named es index (t ∷ ts) (b ∷ bs) h f (inr m) = functions_named es (index + 1) ts bs h f m

-- ---- the object

pub record ObjectNamed (o : Object) : Type 0 where
  pub imports : (i : Import) → Has o.imports i → ImportNamed i
  pub symbols : (s : Symbol) → Has o.symbols s → IsName s.name
  pub functions : (f : FunctionDef) → Has o.functions f → IsName f.export_name

symbols_named : (parts : Parts) (o : Option Linking) → LinkingTold o → PartsNamed parts → ((k : SymbolKind) (i : Import) → Has (imports_of k parts.imports) i → ImportNamed i) → (s : Symbol) → Has (map (with_name parts.imports) (linking_of o).symbols) s → IsName s.name
symbols_named parts None t a of s h = absurd h
symbols_named parts (Some l) t a of s h =
    let m = has_map (with_name parts.imports) l.symbols s h in
    let sp = all_has (λ s. (bytes : List ℕ) × SpellsSymbol s bytes) l.symbols (symbols_spelled l t.0 t.1) m.0 m.1 in
    subst (λ (x : Symbol). IsName x.name) m.2
    (either_name m.0.name (import_name parts.imports m.0) (own_name m.0.kind m.0 sp.1.3.1 sp.1.3.3)
    (field_named (slice_get (imports_of m.0.kind parts.imports) m.0.index) (λ i e. of m.0.kind i (has_at (imports_of m.0.kind parts.imports) m.0.index i e))))

pub names_of : (input : ℕ) (bytes : List ℕ) (o : Object) → IsObject input bytes o → ObjectNamed o
unfolding object_from
names_of input bytes o is =
    let a = turn_named is.sections (code_relocs is.sections bytes is.sections) bytes no_parts is.sections is.parts is.spelled (record { imports = λ i h. absurd h; exports = λ e h. absurd h; linking = tt }) in
    subst ObjectNamed (sym is.is) (record {
      imports = a.imports;
      symbols = symbols_named is.parts is.parts.linking a.linking a (λ k i h. a.imports i (has_filter _ is.parts.imports i h).0);
      functions = functions_named is.parts.exports (counts_of is.sections is.parts).imported_functions is.parts.functions is.parts.bodies a.exports;
    })
