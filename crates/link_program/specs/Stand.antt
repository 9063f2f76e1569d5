-- Where the parts of a program and their windows stand.
use Rattle.std.specs.Prelude.{◌≡◌, ℕ, ◌+◌, ◌≤◌, ◌⊎◌, List, [], ◌∷◌, length, slice_get, slice_index_or, Some, All}
use Rattle.name_meanings.specs.name_entries.wl_base.declared.span.FileSpan.{FileSpan}
use Rattle.reloc_apply.specs.declared.window.Form.TheVariants.{Unsigned5}
use Rattle.reloc_apply.specs.Apart.{size_of}
use Rattle.name_meanings.specs.name_entries.name_rules.Entries.{InputSymbol}
use Rattle.name_meanings.specs.name_entries.name_rules.Meanings.{Meaning, null, Resolved}
use Rattle.link_rules.specs.Program.{Program, Part, Ref, Named, a_symbol, a_type, refs, segment, Content, function, global, linker_made}
use Rattle.link_rules.specs.Values.{form_of}

-- ---- windows

abbrev pub named_place : Named → ℕ
named_place (a_symbol ref) = ref.place
named_place (a_type w) = w.place

-- A window of a relocation has the bytes of its form; one that names a type has five.
abbrev pub named_size : Named → ℕ
named_size (a_symbol ref) = size_of (form_of ref.kind)
named_size (a_type w) = size_of Unsigned5

-- From one place to another the windows rise and don't overlap.
abbrev pub NamedStand : ℕ → ℕ → List Named → Type 0
NamedStand from end [] = from ≤ end
NamedStand from end (n ∷ ns) = (from ≤ named_place n) × NamedStand (named_place n + named_size n) end ns

-- ---- parts

abbrev pub SourceLies : List (List ℕ) → FileSpan → Type 0
SourceLies files s = s.span.start + s.span.len ≤ length (slice_index_or files s.file [])

abbrev pub IsAligned : Content → Type 0
IsAligned (segment info) = info.align ≤ 31
IsAligned (function t) = Unit {0}
IsAligned (global g) = Unit {0}
IsAligned (linker_made m) = Unit {0}

-- A symbol of a loaded object, with its meaning.
abbrev pub IsSymbolOf : List Resolved → InputSymbol → Meaning → Type 0
IsSymbolOf resolved e m =
    (i : ℕ) × (s : ℕ) × (r : Resolved) × (slice_get resolved i ≡ Some r) × (slice_get r.symbols s ≡ Some e) × (slice_get r.meanings s ≡ Some m)

-- A variant, which is null.
abbrev pub IsVariantOf : List InputSymbol → InputSymbol → Meaning → Type 0
IsVariantOf variants e m = (m ≡ null) × (k : ℕ) × (slice_get variants k ≡ Some e)

abbrev pub IsRefOf : Program → Ref → Type 0
IsRefOf p ref = IsSymbolOf p.resolved ref.entry ref.meaning ⊎ IsVariantOf p.variants ref.entry ref.meaning

-- A part of an object lies in its file, and its windows in it. The linker's parts have no bytes and no windows, but its functions
-- name what they call, and have their own bytes.
pub record PartStandsBy (p : Program) (IsRef : Ref → Type 0) (part : Part) : Type 0 where
  pub source : SourceLies p.files part.source
  pub windows : ((part.chunk.input ≡ 0) × (part.chunk.kind ≡ 0)) ⊎ NamedStand 0 part.source.span.len part.named
  pub align : IsAligned part.content
  pub refs : All IsRef (refs part)

abbrev pub PartStands : Program → Part → Type 0
PartStands p part = PartStandsBy p (IsRefOf p) part

abbrev pub PartsStand : Program → Type 0
PartsStand p = All (PartStands p) p.parts
