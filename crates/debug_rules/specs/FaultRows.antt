-- Worked debug sections that are at fault, of one object that is input 1.
use Rattle.std.specs.Prelude.{◌≡◌, ℕ, List, [], ◌∷◌, ◌++◌, codes, Result, Ok, Err, refl}
use Rattle.leb_codec.specs.Shortest.{u32}
use Rattle.leb_codec.specs.Reading.{number_at, end_of, end_within}
use Rattle.wl_base.specs.declared.fault.Fault.{Fault}
use Rattle.wl_base.specs.declared.fault.Fault.TheVariants.{BadDebug, DebugTooLong}
use Rattle.wasm_grammar.specs.Reading.{u32_at, s32_at, bytes_at, front_at, vector_at, many_at, whole}
use Rattle.wasm_sections.specs.Reading.{frame_at, sections_at, section_at}
use Rattle.reloc_section.specs.Relocs.{reloc_section_at, reloc_at}
use Rattle.debug_rules.specs.Sections.{customs}
use Rattle.debug_rules.specs.Faults.{debugs_of}
use Rattle.debug_rules.specs.Joined.{joined, tail_of}
use Rattle.debug_rules.specs.Rows.{hex, input, debug_x, two_relocs, both_live}

-- what is answered for `.debug_x`, section 1, with this section of relocations behind it
abbrev answered : List ℕ → Result (List ℕ) Fault
answered relocs = joined 65 (input (debug_x ++ relocs) ∷ []) both_live

-- the only fault that section 1 has
abbrev bad : Result (List ℕ) Fault
bad = Err (BadDebug 1 1)

-- A relocation of type 0.
other_type : answered (hex (codes "00 0C 06 72 65 6C 6F 63 2E 01 01 00 00 00")) ≡ bad
unfolding joined debugs_of customs tail_of frame_at sections_at section_at u32_at s32_at bytes_at front_at vector_at many_at whole reloc_section_at reloc_at number_at end_of end_within u32
other_type = refl

-- A byte behind the entries.
left_over : answered (hex (codes "00 0A 06 72 65 6C 6F 63 2E 01 00 00")) ≡ bad
unfolding joined debugs_of customs tail_of frame_at sections_at section_at u32_at s32_at bytes_at front_at vector_at many_at whole reloc_section_at reloc_at number_at end_of end_within u32
left_over = refl

-- The place of a function that is a datum, and a symbol that isn't there.
other_kind : answered (hex (codes "00 0D 06 72 65 6C 6F 63 2E 01 01 08 00 02 00")) ≡ bad
unfolding joined debugs_of customs tail_of frame_at sections_at section_at u32_at s32_at bytes_at front_at vector_at many_at whole reloc_section_at reloc_at number_at end_of end_within u32
other_kind = refl

no_symbol : answered (hex (codes "00 0D 06 72 65 6C 6F 63 2E 01 01 08 00 05 00")) ≡ bad
unfolding joined debugs_of customs tail_of frame_at sections_at section_at u32_at s32_at bytes_at front_at vector_at many_at whole reloc_section_at reloc_at number_at end_of end_within u32
no_symbol = refl

-- A window of which one byte lies behind the section, and two windows that share a byte.
past_the_end : answered (hex (codes "00 0D 06 72 65 6C 6F 63 2E 01 01 08 05 00 00")) ≡ bad
unfolding joined debugs_of customs tail_of frame_at sections_at section_at u32_at s32_at bytes_at front_at vector_at many_at whole reloc_section_at reloc_at number_at end_of end_within u32
past_the_end = refl

overlap : answered (two_relocs (hex (codes "08 00 00 00 08 03 00 00"))) ≡ bad
unfolding joined debugs_of customs tail_of frame_at sections_at section_at u32_at s32_at bytes_at front_at vector_at many_at whole reloc_section_at reloc_at number_at end_of end_within u32
overlap = refl

-- A place in a section that is no debug section: the symbol names section 1, which is `other` here, before `.debug_x`.
other_section : joined 65 (input (hex (codes "00 06 05 6F 74 68 65 72") ++ debug_x ++ hex (codes "00 0D 06 72 65 6C 6F 63 2E 02 01 09 00 03 00")) ∷ []) both_live
    ≡ Err (BadDebug 1 2)
unfolding joined debugs_of customs tail_of frame_at sections_at section_at u32_at s32_at bytes_at front_at vector_at many_at whole reloc_section_at reloc_at number_at end_of end_within u32
other_section = refl

-- Two sections of relocations for one.
second_relocs : answered (hex (codes "00 09 06 72 65 6C 6F 63 2E 01 00 00 09 06 72 65 6C 6F 63 2E 01 00")) ≡ bad
unfolding joined debugs_of customs tail_of frame_at sections_at section_at u32_at s32_at bytes_at front_at vector_at many_at whole reloc_section_at reloc_at number_at end_of end_within u32
second_relocs = refl

-- Two sections at fault: the one that comes first in the file, whatever the order of their relocations.
first_of_two : joined 65
    (input (debug_x ++ debug_x ++ hex (codes "00 0C 06 72 65 6C 6F 63 2E 02 01 00 00 00 00 0C 06 72 65 6C 6F 63 2E 01 01 00 00 00")) ∷ [])
    both_live
    ≡ bad
unfolding joined debugs_of customs tail_of frame_at sections_at section_at u32_at s32_at bytes_at front_at vector_at many_at whole reloc_section_at reloc_at number_at end_of end_within u32
first_of_two = refl

-- An output of 2^31 - 12 bytes and 19 more.
too_long : joined 2147483636 (input debug_x ∷ []) both_live ≡ Err (DebugTooLong 2147483655)
unfolding joined debugs_of customs tail_of frame_at sections_at section_at u32_at s32_at bytes_at front_at vector_at many_at whole reloc_section_at reloc_at number_at end_of end_within u32
too_long = refl

-- A fault of a section comes before that of the length.
fault_before_length : joined 2147483636 (input (debug_x ++ hex (codes "00 0C 06 72 65 6C 6F 63 2E 01 01 00 00 00")) ∷ []) both_live ≡ bad
unfolding joined debugs_of customs tail_of frame_at sections_at section_at u32_at s32_at bytes_at front_at vector_at many_at whole reloc_section_at reloc_at number_at end_of end_within u32
fault_before_length = refl
