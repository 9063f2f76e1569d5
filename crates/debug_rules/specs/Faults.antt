-- What is wrong with a debug section (Linking.md, "Relocation Sections").
use Rattle.std.specs.Prelude.{ℕ, ◌+◌, ◌==◌, ◌&&◌, ◌||◌, nat_le, Bool, true, false, not, List, [], ◌∷◌, ◌++◌, map, filter, length, slice_get, if◌then◌else◌, Option, Some, None, Result, Ok, Err}
use Rattle.std.specs.List.{list_all, list_any}
use Rattle.wl_base.specs.Choice.{◌>>=◌}
use Rattle.wl_base.specs.declared.fault.Fault.{Fault}
use Rattle.wl_base.specs.declared.fault.Fault.TheVariants.{BadDebug}
use Rattle.wasm_grammar.specs.declared.fault.Stop.{Stop}
use Rattle.reloc_section.specs.declared.entry.Reloc.{Reloc}
use Rattle.reloc_section.specs.declared.section.RelocSection.{RelocSection}
use Rattle.reloc_section.specs.Relocs.{relocs_at}
use Rattle.linking_section.specs.declared.symbol.Symbol.{Symbol}
use Rattle.linking_section.specs.declared.symbol.SymbolKind.{SymbolKind}
use Rattle.linking_section.specs.declared.symbol.SymbolKind.TheVariants.{Function, Datum, GlobalVar, Section, Table}
use Rattle.debug_rules.specs.Sections.{Custom, customs, is_debug, payloads_for}

-- What is looked at of a loaded object: its number among the inputs, its bytes, its symbols.
pub record Input : Type 0 where
  pub input : ℕ
  pub bytes : List ℕ
  pub symbols : List Symbol

-- A debug section: the place of its object among the loaded ones, the object's symbols, and the relocations for the section.
pub record Debug : Type 0 where
  pub object : ℕ
  pub symbols : List Symbol
  pub section : Custom
  pub relocs : List Reloc

-- ---- one relocation

-- The kind of symbol that a relocation of this type names: TABLE_INDEX_I32 (2) and FUNCTION_OFFSET_I32 (8) a function,
-- MEMORY_ADDR_I32 (5) a datum, SECTION_OFFSET_I32 (9) a section, GLOBAL_INDEX_I32 (13) a global. No other type may stand.
abbrev pub may_stand : ℕ → SymbolKind → Bool
may_stand kind Function = (kind == 2) || (kind == 8)
may_stand kind Datum = kind == 5
may_stand kind GlobalVar = kind == 13
may_stand kind Section = kind == 9
may_stand kind Table = false

-- The symbol is there and of that kind, and a section that it names is one of the object's debug sections, which stand at
-- these places.
abbrev pub entry_stands : List ℕ → Reloc → Option Symbol → Bool
entry_stands debug r None = false
entry_stands debug r (Some s) = may_stand r.kind s.kind && (not (r.kind == 9) || list_any (λ at. at == s.index) debug)

-- From a place on the windows, four bytes wide, rise, don't overlap and lie in the length.
abbrev pub lie_apart : ℕ → ℕ → List Reloc → Bool
lie_apart len from [] = true
lie_apart len from (r ∷ rs) = nat_le from r.offset && (nat_le (r.offset + 4) len && lie_apart len (r.offset + 4) rs)

abbrev pub entries_stand : List ℕ → List Symbol → ℕ → List Reloc → Bool
entries_stand debug symbols len rs = list_all (λ r. entry_stands debug r (slice_get symbols r.index)) rs && lie_apart len 0 rs

-- ---- the relocations of one section

-- what is spelled, if it stands
abbrev pub if_stand : List ℕ → List Symbol → ℕ → Result RelocSection Stop → Option (List Reloc)
if_stand debug symbols len (Ok s) = if entries_stand debug symbols len s.entries then Some s.entries else None
if_stand debug symbols len (Err stop) = None

-- Of the payloads that hold relocations for a section of so many bytes: none is needed, and a second one is at fault.
abbrev pub relocs_in : List ℕ → List Symbol → ℕ → List (List ℕ) → Option (List Reloc)
relocs_in debug symbols len [] = Some []
relocs_in debug symbols len (p ∷ []) = if_stand debug symbols len (relocs_at (length p) p)
relocs_in debug symbols len (p ∷ q ∷ more) = None

-- ---- all of an object, and of all objects

abbrev pub debug_at : ℕ → ℕ → List Symbol → Custom → Option (List Reloc) → Result Debug Fault
debug_at object input symbols c None = Err (BadDebug input c.at)
debug_at object input symbols c (Some rs) = Ok (record { object = object; symbols = symbols; section = c; relocs = rs })

-- these sections, of which the first that is at fault is answered; `debug` are the places of all debug sections of the object
abbrev pub debugs_from : ℕ → ℕ → List Symbol → List ℕ → List Custom → List Custom → Result (List Debug) Fault
debugs_from object input symbols debug all [] = Ok []
debugs_from object input symbols debug all (c ∷ cs) = do
  first ← debug_at object input symbols c (relocs_in debug symbols (length c.content) (payloads_for c.at all))
  others ← debugs_from object input symbols debug all cs
  Ok (first ∷ others)

abbrev pub debug_places : List Custom → List ℕ
debug_places all = map (λ c. c.at) (filter is_debug all)

abbrev pub debugs_in : ℕ → ℕ → List Symbol → List Custom → Result (List Debug) Fault
debugs_in object input symbols all = debugs_from object input symbols (debug_places all) all (filter is_debug all)

-- The debug sections of an object, by their places in it, or the first that is at fault.
unfoldable pub debugs_of : ℕ → Input → Result (List Debug) Fault
debugs_of object i = debugs_in object i.input i.symbols (customs i.bytes)

-- The debug sections of the objects from this place on, object by object, or the first that is at fault.
abbrev pub debugs : ℕ → List Input → Result (List Debug) Fault
debugs object [] = Ok []
debugs object (i ∷ is) = do
  first ← debugs_of object i
  others ← debugs (object + 1) is
  Ok (first ++ others)
