-- The flags of symbols and segments, and what a symbol is by them (tool conventions, Linking.md,
-- 'Linking Metadata Section').
use Rattle.std.specs.Prelude.{ℕ, Bool, not, ◌==◌, ◌&&◌, ◌||◌, nat_le, is_some, bit_and}
use Rattle.linking_section.specs.declared.symbol.Symbol.{Symbol}
use Rattle.linking_section.specs.declared.symbol.SymbolKind.{SymbolKind}
use Rattle.linking_section.specs.declared.symbol.SymbolKind.TheVariants.{Function, Datum, GlobalVar, Section, Table}

-- The byte that spells a kind. 4 is a tag's, which isn't linked.
abbrev pub kind_code : SymbolKind → ℕ
kind_code Function = 0
kind_code Datum = 1
kind_code GlobalVar = 2
kind_code Section = 3
kind_code Table = 5

-- ---- flags as numbers

-- The flags have this bit.
abbrev pub has_bit : ℕ → ℕ → Bool
has_bit bit flags = not (bit_and flags bit == 0)

-- Flags of a symbol that isn't linked: TLS (0x100), ABSOLUTE (0x200), a bit without a name (8, or
-- one above these), or WEAK (1) and LOCAL (2) together.
abbrev pub is_foreign_symbol : ℕ → Bool
is_foreign_symbol flags = has_bit 0x100 flags || has_bit 0x200 flags || has_bit 0x08 flags || nat_le 0x400 flags || (has_bit 0x01 flags && has_bit 0x02 flags)

-- Flags of a segment that isn't linked: TLS (2), or a bit without a name (one above 4).
abbrev pub is_foreign_segment : ℕ → Bool
is_foreign_segment flags = has_bit 0x02 flags || nat_le 0x08 flags

-- The name of a function, global or table stands with the symbol, unless it is UNDEFINED without
-- EXPLICIT_NAME: then it is the name of its import.
abbrev pub is_named : ℕ → Bool
is_named flags = not (has_bit 0x10 flags) || has_bit 0x40 flags

-- ---- what a symbol is

abbrev pub has_flag : ℕ → Symbol → Bool
has_flag bit s = has_bit bit s.flags

abbrev pub is_weak : Symbol → Bool
is_weak = has_flag 0x01

abbrev pub is_local : Symbol → Bool
is_local = has_flag 0x02

abbrev pub is_hidden : Symbol → Bool
is_hidden = has_flag 0x04

abbrev pub is_undefined : Symbol → Bool
is_undefined = has_flag 0x10

abbrev pub is_exported : Symbol → Bool
is_exported = has_flag 0x20

abbrev pub is_explicit : Symbol → Bool
is_explicit = has_flag 0x40

abbrev pub is_no_strip : Symbol → Bool
is_no_strip = has_flag 0x80

-- A definition that other objects see. A symbol of a section has no name and is nothing of this.
abbrev pub is_definition : Symbol → Bool
is_definition s = is_some s.name && not (is_undefined s) && not (is_local s)

abbrev pub is_local_definition : Symbol → Bool
is_local_definition s = is_local s && not (is_undefined s)

-- An undefined symbol without WEAK: it is a need for which library members and lazy objects are loaded.
abbrev pub is_strong_reference : Symbol → Bool
is_strong_reference s = is_some s.name && is_undefined s && not (is_weak s)
