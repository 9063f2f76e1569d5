-- Worked debug sections.
use Rattle.std.specs.Prelude.{◌≡◌, ℕ, ◌-◌, ◌*◌, ◌+◌, nat_lt, List, [], ◌∷◌, ◌++◌, codes, if◌then◌else◌, Option, Some, None, Result, Ok, Err, refl}
use Rattle.leb_codec.specs.Shortest.{u32}
use Rattle.leb_codec.specs.Reading.{number_at, end_of, end_within}
use Rattle.wasm_grammar.specs.Reading.{u32_at, s32_at, bytes_at, front_at, vector_at, many_at, whole}
use Rattle.wasm_sections.specs.Reading.{frame_at, sections_at, section_at}
use Rattle.reloc_section.specs.Relocs.{reloc_section_at, reloc_at}
use Rattle.linking_section.specs.declared.symbol.Symbol.{Symbol}
use Rattle.linking_section.specs.declared.symbol.SymbolKind.{SymbolKind}
use Rattle.linking_section.specs.declared.symbol.SymbolKind.TheVariants.{Function, Datum, GlobalVar, Section}
use Rattle.debug_rules.specs.Sections.{customs}
use Rattle.debug_rules.specs.Faults.{Input, debugs_of}
use Rattle.debug_rules.specs.Joined.{Places, joined, tail_of}

-- ---- bytes in hexadecimal, with a space between two

abbrev digit : ℕ → ℕ
digit c = if nat_lt c 0x41 then c - 0x30 else c - 0x37

abbrev pub hex : List ℕ → List ℕ
hex [] = []
hex (a ∷ []) = []
hex (a ∷ b ∷ []) = (16 * digit a + digit b) ∷ []
hex (a ∷ b ∷ space ∷ rest) = (16 * digit a + digit b) ∷ hex rest

-- ---- objects

abbrev pub symbol : SymbolKind → ℕ → Symbol
symbol kind index = record { kind = kind; flags = 0; name = None; index = index; offset = 0; size = 0 }

-- two functions, a datum, the section of number 1, a global
abbrev pub symbols : List Symbol
symbols = symbol Function 0 ∷ symbol Function 1 ∷ symbol Datum 0 ∷ symbol Section 1 ∷ symbol GlobalVar 0 ∷ []

-- a function section, which is section 0, and these sections behind it
abbrev pub object : List ℕ → List ℕ
object more = hex (codes "00 61 73 6D 01 00 00 00 03 02 01 00") ++ more

-- `.debug_x` with eight bytes, and `reloc.` with two entries for it, which is section 1
abbrev pub debug_x : List ℕ
debug_x = hex (codes "00 11 08 2E 64 65 62 75 67 5F 78 00 00 00 00 00 00 00 00")

abbrev pub two_relocs : List ℕ → List ℕ
two_relocs entries = hex (codes "00 11 06 72 65 6C 6F 63 2E 01 02") ++ entries

-- the same with entries that have no addend
abbrev pub two_short_relocs : List ℕ → List ℕ
two_short_relocs entries = hex (codes "00 0F 06 72 65 6C 6F 63 2E 01 02") ++ entries

abbrev pub input : List ℕ → Input
input more = record { input = 1; bytes = object more; symbols = symbols }

abbrev pub with_bodies : List (Option ℕ) → Places
with_bodies bodies = record {
  bodies = bodies ∷ bodies ∷ [];
  addresses = (None ∷ None ∷ Some 1024 ∷ []) ∷ (None ∷ None ∷ Some 2048 ∷ []) ∷ [];
  slots = (None ∷ Some 1 ∷ []) ∷ [];
  globals = (None ∷ None ∷ None ∷ None ∷ Some 7 ∷ []) ∷ [];
}

abbrev pub both_live : Places
both_live = with_bodies (Some 2 ∷ Some 11 ∷ [])

abbrev pub second_dead : Places
second_dead = with_bodies (Some 2 ∷ None ∷ [])

-- ---- rows

-- Places of two functions, behind an output of 65 bytes: the place of the body and the addend.
offsets : joined 65 (input (debug_x ++ two_relocs (hex (codes "08 00 00 01 08 04 01 00"))) ∷ []) both_live
    ≡ Ok (hex (codes "00 11 08 2E 64 65 62 75 67 5F 78 03 00 00 00 0B 00 00 00"))
unfolding joined debugs_of customs tail_of frame_at sections_at section_at u32_at s32_at bytes_at front_at vector_at many_at whole reloc_section_at reloc_at number_at end_of end_within u32
offsets = refl

-- The second function is dead.
dead_offset : joined 65 (input (debug_x ++ two_relocs (hex (codes "08 00 00 01 08 04 01 00"))) ∷ []) second_dead
    ≡ Ok (hex (codes "00 11 08 2E 64 65 62 75 67 5F 78 03 00 00 00 FF FF FF FF"))
unfolding joined debugs_of customs tail_of frame_at sections_at section_at u32_at s32_at bytes_at front_at vector_at many_at whole reloc_section_at reloc_at number_at end_of end_within u32
dead_offset = refl

-- A dead function in `.debug_ranges`, where the greatest number means something else.
dead_range : joined 65
    (input (hex (codes "00 12 0D 2E 64 65 62 75 67 5F 72 61 6E 67 65 73 00 00 00 00")
    ++ hex (codes "00 0D 06 72 65 6C 6F 63 2E 01 01 08 00 01 05")) ∷ [])
    second_dead
    ≡ Ok (hex (codes "00 12 0D 2E 64 65 62 75 67 5F 72 61 6E 67 65 73 FE FF FF FF"))
unfolding joined debugs_of customs tail_of frame_at sections_at section_at u32_at s32_at bytes_at front_at vector_at many_at whole reloc_section_at reloc_at number_at end_of end_within u32
dead_range = refl

-- A slot that isn't there in `.debug_loc`.
dead_location : joined 65
    (input (hex (codes "00 0F 0A 2E 64 65 62 75 67 5F 6C 6F 63 00 00 00 00")
    ++ hex (codes "00 0C 06 72 65 6C 6F 63 2E 01 01 02 00 00")) ∷ [])
    both_live
    ≡ Ok (hex (codes "00 0F 0A 2E 64 65 62 75 67 5F 6C 6F 63 FE FF FF FF"))
unfolding joined debugs_of customs tail_of frame_at sections_at section_at u32_at s32_at bytes_at front_at vector_at many_at whole reloc_section_at reloc_at number_at end_of end_within u32
dead_location = refl

-- A slot and the number of a global.
slot_and_global : joined 65 (input (debug_x ++ two_short_relocs (hex (codes "02 00 01 0D 04 04"))) ∷ []) both_live
    ≡ Ok (hex (codes "00 11 08 2E 64 65 62 75 67 5F 78 01 00 00 00 07 00 00 00"))
unfolding joined debugs_of customs tail_of frame_at sections_at section_at u32_at s32_at bytes_at front_at vector_at many_at whole reloc_section_at reloc_at number_at end_of end_within u32
slot_and_global = refl

-- Two inputs with sections of one name: the second's place in the joined section with an addend of 2, and a datum with an
-- addend of -1.
two_inputs : joined 65
    (input (debug_x ++ two_relocs (hex (codes "09 00 03 02 05 04 02 7F")))
    ∷ record (input (debug_x ++ two_relocs (hex (codes "09 00 03 02 05 04 02 7F")))) { input = 2 } ∷ [])
    both_live
    ≡ Ok (hex (codes "00 19 08 2E 64 65 62 75 67 5F 78 02 00 00 00 FF 03 00 00 0A 00 00 00 FF 07 00 00"))
unfolding joined debugs_of customs tail_of frame_at sections_at section_at u32_at s32_at bytes_at front_at vector_at many_at whole reloc_section_at reloc_at number_at end_of end_within u32
two_inputs = refl

-- Names by their first sections, contributions of a name in one section: `.debug_x`, `.debug_a`, and `.debug_x` once more.
three_sections : joined 65
    (input (hex (codes "00 0A 08 2E 64 65 62 75 67 5F 78 01 00 0A 08 2E 64 65 62 75 67 5F 61 02 00 0A 08 2E 64 65 62 75 67 5F 78 03")) ∷ [])
    both_live
    ≡ Ok (hex (codes "00 0B 08 2E 64 65 62 75 67 5F 78 01 03 00 0A 08 2E 64 65 62 75 67 5F 61 02"))
unfolding joined debugs_of customs tail_of frame_at sections_at section_at u32_at s32_at bytes_at front_at vector_at many_at whole reloc_section_at reloc_at number_at end_of end_within u32
three_sections = refl

-- Sections without bytes stay, and other custom sections go.
empty_section : joined 65 (input (hex (codes "00 09 08 2E 64 65 62 75 67 5F 78 00 06 05 6F 74 68 65 72")) ∷ []) both_live
    ≡ Ok (hex (codes "00 09 08 2E 64 65 62 75 67 5F 78"))
unfolding joined debugs_of customs tail_of frame_at sections_at section_at u32_at s32_at bytes_at front_at vector_at many_at whole reloc_section_at reloc_at number_at end_of end_within u32
empty_section = refl
