-- The types of relocations (tool conventions, Linking.md, 'Relocation Sections').
use Rattle.std.specs.Prelude.{ℕ, Bool, nat_le, ◌==◌, ◌&&◌, ◌||◌}
use Rattle.reloc_section.specs.declared.kinds.TheConstants.{MEMORY_ADDR_LEB, MEMORY_ADDR_I32, FUNCTION_OFFSET_I32, SECTION_OFFSET_I32, MEMORY_ADDR_REL_SLEB, GLOBAL_INDEX_I32, TABLE_NUMBER_LEB}

-- The types that are read: those up to SECTION_OFFSET_I32 (9), those from MEMORY_ADDR_REL_SLEB (11) to
-- GLOBAL_INDEX_I32 (13), and TABLE_NUMBER_LEB (20). So TAG_INDEX_LEB (10) isn't, nor is any of 64 bits
-- (14 to 19, 22 to 26).
abbrev pub is_read : ℕ → Bool
is_read kind =
    nat_le kind SECTION_OFFSET_I32
    || (nat_le MEMORY_ADDR_REL_SLEB kind && nat_le kind GLOBAL_INDEX_I32)
    || (kind == TABLE_NUMBER_LEB)

-- Those whose entries have an addend: addresses, and places in functions and sections.
abbrev pub has_addend : ℕ → Bool
has_addend kind =
    (nat_le MEMORY_ADDR_LEB kind && nat_le kind MEMORY_ADDR_I32)
    || (kind == FUNCTION_OFFSET_I32) || (kind == SECTION_OFFSET_I32) || (kind == MEMORY_ADDR_REL_SLEB)
