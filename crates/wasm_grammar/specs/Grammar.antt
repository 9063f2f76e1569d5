-- Which bytes spell a value, by the grammar of the binary format (WebAssembly Core Specification
-- 2.0, section 5.1.1: a grammar says which byte sequences stand for a value, and part follows
-- part).
--
-- These are relations and no functions of the value, since a number has several spellings (Core
-- 5.2.2).
use Rattle.std.specs.Prelude.{◌≡◌, ℕ, ℤ, List, [], ◌∷◌, ◌++◌, length, IsUtf8}
use Rattle.leb_codec.specs.Spelling.{magnitude, signed_value, Spells}
use Rattle.leb_codec.specs.declared.form.Form.TheVariants.{U32, S32, S33, S64}

-- No byte at all: the empty sequence (Core 5.1.1).
abbrev pub SpellsNothing : List ℕ → Type 0
SpellsNothing bytes = bytes ≡ []

-- A byte stands for itself (Core 5.2.1).
abbrev pub SpellsByte : ℕ → List ℕ → Type 0
SpellsByte byte bytes = bytes ≡ byte ∷ []

-- An unsigned number of 32 bits in LEB128, of five bytes at most (Core 5.2.2).
abbrev pub SpellsU32 : ℕ → List ℕ → Type 0
SpellsU32 n bytes = Spells magnitude U32 bytes n

-- A signed number of 32 bits in LEB128, of five bytes at most (Core 5.2.2).
abbrev pub SpellsS32 : ℤ → List ℕ → Type 0
SpellsS32 n bytes = Spells signed_value S32 bytes n

-- A signed number of 33 bits, as a block type has it (Core 5.2.2, 5.4.1).
abbrev pub SpellsS33 : ℤ → List ℕ → Type 0
SpellsS33 n bytes = Spells signed_value S33 bytes n

-- A signed number of 64 bits in LEB128, of ten bytes at most (Core 5.2.2).
abbrev pub SpellsS64 : ℤ → List ℕ → Type 0
SpellsS64 n bytes = Spells signed_value S64 bytes n

-- One part, and then another: what the grammar writes side by side (Core 5.1.1).
abbrev pub Then : (List ℕ → Type 0) → (List ℕ → Type 0) → List ℕ → Type 0
Then First Second bytes = (first : List ℕ) × (second : List ℕ) × First first × Second second × (bytes ≡ first ++ second)

-- Items one after another: a part that is repeated, one time for each item of the list (Core
-- 5.1.1).
abbrev pub SpellsMany : {A : Type 0} → (A → List ℕ → Type 0) → List A → List ℕ → Type 0
SpellsMany Item [] bytes = bytes ≡ []
SpellsMany Item (x ∷ xs) bytes = Then (Item x) (SpellsMany Item xs) bytes

-- A vector: the u32 count of its items, and the items (Core 5.1.3).
abbrev pub SpellsVector : {A : Type 0} → (A → List ℕ → Type 0) → List A → List ℕ → Type 0
SpellsVector Item xs bytes = Then (SpellsU32 (length xs)) (SpellsMany Item xs) bytes

-- Bytes that stand for themselves, with no count.
abbrev pub SpellsItself : List ℕ → List ℕ → Type 0
SpellsItself text bytes = bytes ≡ text

-- A vector of bytes: their u32 count, and the bytes (Core 5.1.3, 5.2.1).
abbrev pub SpellsBytes : List ℕ → List ℕ → Type 0
SpellsBytes text bytes = Then (SpellsU32 (length text)) (SpellsItself text) bytes

-- A name: a vector of bytes that are UTF-8 (Core 5.2.4).
abbrev pub SpellsName : List ℕ → List ℕ → Type 0
SpellsName name bytes = IsUtf8 name × SpellsBytes name bytes

-- A u32 size, and a part that is just so many bytes long, as a section's contents and a function's
-- code (Core 5.5.2, 5.5.13).
abbrev pub SpellsSized : (List ℕ → Type 0) → List ℕ → Type 0
SpellsSized Part bytes = (size : List ℕ) × (part : List ℕ) × SpellsU32 (length part) size × Part part × (bytes ≡ size ++ part)
