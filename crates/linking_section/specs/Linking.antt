-- The section `linking`: which bytes spell it (tool conventions, Linking.md, 'Linking Metadata
-- Section').
use Rattle.std.specs.Prelude.{◌≡◌, ℕ, Bool, true, false, not, ◌==◌, ◌||◌, IsTrue, List, [], ◌∷◌, Option, Some, None, if◌then◌else◌}
use Rattle.wasm_grammar.specs.Grammar.{SpellsNothing, SpellsByte, SpellsU32, SpellsName, SpellsMany, SpellsVector, Then}
use Rattle.wasm_grammar.specs.Subsections.{Subsection, SpellsSubsection, payloads_of}
use Rattle.linking_section.specs.declared.symbol.Symbol.{Symbol}
use Rattle.linking_section.specs.declared.symbol.Extent.{Extent}
use Rattle.linking_section.specs.declared.symbol.SymbolKind.{SymbolKind}
use Rattle.linking_section.specs.declared.symbol.SymbolKind.TheVariants.{Function, Datum, GlobalVar, Section, Table}
use Rattle.linking_section.specs.declared.segment.SegmentInfo.{SegmentInfo}
use Rattle.linking_section.specs.declared.init.InitFunc.{InitFunc}
use Rattle.linking_section.specs.declared.group.Member.{Member}
use Rattle.linking_section.specs.declared.group.Group.{Group}
use Rattle.linking_section.specs.declared.linking.Linking.{Linking}
use Rattle.linking_section.specs.declared.member_kinds.TheConstants.{DATA, FUNCTION, SECTION}
use Rattle.linking_section.specs.Flags.{kind_code, is_foreign_symbol, is_foreign_segment, is_named, is_undefined}

-- A u32 for which the test doesn't hold.
abbrev pub SpellsUnless : (ℕ → Bool) → ℕ → List ℕ → Type 0
SpellsUnless foreign n bytes = (foreign n ≡ false) × SpellsU32 n bytes

-- ---- segments, init functions and groups

-- What is said of a segment: its name, its alignment as an exponent of 2, and flags that are linked.
abbrev pub SpellsSegmentInfo : SegmentInfo → List ℕ → Type 0
SpellsSegmentInfo i = Then (SpellsName i.name) (Then (SpellsU32 i.align) (SpellsUnless is_foreign_segment i.flags))

-- An init function: its priority, and its symbol.
abbrev pub SpellsInit : InitFunc → List ℕ → Type 0
SpellsInit i = Then (SpellsU32 i.priority) (SpellsU32 i.symbol)

-- A member's kind: a data segment, a function or a section.
abbrev pub is_member_kind : ℕ → Bool
is_member_kind kind = (kind == DATA) || (kind == FUNCTION) || (kind == SECTION)

-- A member: the byte of its kind, and its index.
abbrev pub SpellsMember : Member → List ℕ → Type 0
SpellsMember m bytes = IsTrue (is_member_kind m.kind) × Then (SpellsByte m.kind) (SpellsU32 m.index) bytes

-- A group: its name, flags, which have to be 0, and its members.
abbrev pub SpellsGroup : Group → List ℕ → Type 0
SpellsGroup g = Then (SpellsName g.name) (Then (SpellsU32 0) (SpellsVector SpellsMember g.members))

-- ---- symbols

-- A name, where one is present.
abbrev pub SpellsMaybe : Bool → Option (List ℕ) → List ℕ → Type 0
SpellsMaybe true (Some name) bytes = SpellsName name bytes
SpellsMaybe true None bytes = ⊥
SpellsMaybe false (Some name) bytes = ⊥
SpellsMaybe false None bytes = SpellsNothing bytes

-- A function, global or table: its index, and its name where it stands with the symbol.
abbrev pub SpellsIndexed : Symbol → List ℕ → Type 0
SpellsIndexed s bytes = (s.offset ≡ 0) × (s.size ≡ 0) × Then (SpellsU32 s.index) (SpellsMaybe (is_named s.flags) s.name) bytes

-- Where a datum stands: the index of its segment, its offset there and its size. One that is
-- undefined stands nowhere.
abbrev pub SpellsExtent : Bool → Extent → List ℕ → Type 0
SpellsExtent true e bytes = Then (SpellsU32 e.segment) (Then (SpellsU32 e.offset) (SpellsU32 e.size)) bytes
SpellsExtent false e bytes = (e.segment ≡ 0) × (e.offset ≡ 0) × (e.size ≡ 0) × SpellsNothing bytes

-- A datum: its name, and where it stands.
abbrev pub SpellsDatum : Symbol → List ℕ → Type 0
SpellsDatum s = Then (SpellsMaybe true s.name) (SpellsExtent (not (is_undefined s)) (record { segment = s.index; offset = s.offset; size = s.size }))

-- A section's symbol: its index alone.
abbrev pub SpellsSectionSymbol : Symbol → List ℕ → Type 0
SpellsSectionSymbol s bytes = (s.name ≡ None) × (s.offset ≡ 0) × (s.size ≡ 0) × SpellsU32 s.index bytes

-- What follows the flags, by the kind.
abbrev pub SpellsBody : SymbolKind → Symbol → List ℕ → Type 0
SpellsBody Function s bytes = SpellsIndexed s bytes
SpellsBody Datum s bytes = SpellsDatum s bytes
SpellsBody GlobalVar s bytes = SpellsIndexed s bytes
SpellsBody Section s bytes = SpellsSectionSymbol s bytes
SpellsBody Table s bytes = SpellsIndexed s bytes

-- A symbol: the byte of its kind, flags that are linked, and the rest by the kind.
abbrev pub SpellsSymbol : Symbol → List ℕ → Type 0
SpellsSymbol s = Then (SpellsByte (kind_code s.kind)) (Then (SpellsUnless is_foreign_symbol s.flags) (SpellsBody s.kind s))

-- ---- the section

-- These payloads say this list: one is its vector, none is the empty list, and more there may not
-- be.
abbrev pub IsSaid : {A : Type 0} → (A → List ℕ → Type 0) → List (List ℕ) → List A → Type 0
IsSaid Item [] xs = xs ≡ []
IsSaid Item (payload ∷ []) xs = SpellsVector Item xs payload
IsSaid Item (payload ∷ other ∷ more) xs = ⊥

-- The payload, behind the section's name: the version, 2, and subsections in any order. Types 5
-- (segment info), 6 (init functions), 7 (COMDAT) and 8 (symbols) come at most once each; other
-- types are skipped.
pub record SpellsLinking (l : Linking) (bytes : List ℕ) : Type 0 where
  pub subsections : List Subsection
  pub spelled : Then (SpellsU32 2) (SpellsMany SpellsSubsection subsections) bytes
  pub segments : IsSaid SpellsSegmentInfo (payloads_of 5 subsections) l.segments
  pub inits : IsSaid SpellsInit (payloads_of 6 subsections) l.inits
  pub groups : IsSaid SpellsGroup (payloads_of 7 subsections) l.groups
  pub symbols : IsSaid SpellsSymbol (payloads_of 8 subsections) l.symbols
