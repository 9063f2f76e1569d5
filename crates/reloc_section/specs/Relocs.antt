-- A section `reloc.`: which bytes spell it, and how it is read (tool conventions, Linking.md,
-- 'Relocation Sections').
use Rattle.std.specs.Prelude.{◌≡◌, ℕ, ℤ, pos, Bool, true, false, IsTrue, List, Result, Ok, Err, if◌then◌else◌}
use Rattle.wasm_grammar.specs.wl_base.declared.item.Item.TheVariants as items
use Rattle.wasm_grammar.specs.declared.fault.Stop.{Stop}
use Rattle.wasm_grammar.specs.declared.fault.Stop.TheVariants.{Foreign}
use Rattle.wasm_grammar.specs.Grammar.{SpellsNothing, SpellsByte, SpellsU32, SpellsS32, SpellsVector, Then}
use Rattle.wasm_grammar.specs.Reading.{Read, ◌>>=◌, byte_at, u32_at, s32_at, vector_at, whole}
use Rattle.reloc_section.specs.declared.entry.Reloc.{Reloc}
use Rattle.reloc_section.specs.declared.section.RelocSection.{RelocSection}
use Rattle.reloc_section.specs.Kinds.{is_read, has_addend}

-- ---- the grammar

-- The addend: an s32 where the type has one. Else there is none, and it counts as 0.
abbrev pub SpellsAddend : Bool → ℤ → List ℕ → Type 0
SpellsAddend true addend bytes = SpellsS32 addend bytes
SpellsAddend false addend bytes = (addend ≡ pos 0) × SpellsNothing bytes

-- An entry: the byte of its type, the u32 offset in the target's payload, the u32 index of a symbol
-- or of a type, and the addend.
abbrev pub SpellsReloc : Reloc → List ℕ → Type 0
SpellsReloc r bytes = IsTrue (is_read r.kind) × Then (SpellsByte r.kind) (Then (SpellsU32 r.offset) (Then (SpellsU32 r.index) (SpellsAddend (has_addend r.kind) r.addend))) bytes

-- The payload, behind the section's name: the u32 index of the target section, and the entries.
abbrev pub SpellsRelocSection : RelocSection → List ℕ → Type 0
SpellsRelocSection s = Then (SpellsU32 s.target) (SpellsVector SpellsReloc s.entries)

-- ---- reading

-- A type that is read. Another one is foreign.
abbrev pub known_kind : ℕ → Result ℕ Stop
known_kind kind = if is_read kind then Ok kind else Err (Foreign (items.RelocType kind))

abbrev pub addend_at : ℕ → Read ℤ
addend_at kind end bytes = if has_addend kind then s32_at end bytes else Ok (pos 0, bytes)

unfoldable pub reloc_at : Read Reloc
reloc_at end bytes = do
  byte ← byte_at end bytes
  kind ← known_kind byte.0
  offset ← u32_at end byte.1
  index ← u32_at end offset.1
  addend ← addend_at kind end index.1
  Ok (record { kind = kind; offset = offset.0; index = index.0; addend = addend.0 }, addend.1)

unfoldable pub reloc_section_at : Read RelocSection
reloc_section_at end bytes = do
  target ← u32_at end bytes
  entries ← vector_at reloc_at end target.1
  Ok (record { target = target.0; entries = entries.0 }, entries.1)

-- The whole payload: a byte that is left over is broken.
abbrev pub relocs_at : ℕ → List ℕ → Result RelocSection Stop
relocs_at = whole reloc_section_at
