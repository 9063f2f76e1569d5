-- The sections of a module: which bytes spell them, and how they are read (WebAssembly Core
-- Specification 2.0, sections 5.5.2 and 5.5.3).
use Rattle.std.specs.Prelude.{◌≡◌, ℕ, zero, suc, ◌-◌, Bool, false, drop, List, [], ◌∷◌, ◌++◌, length, Option, Some, None, ◌⊎◌, Result, Ok, ◌==◌, if◌then◌else◌}
use Rattle.wasm_instr.specs.wasm_grammar.declared.fault.Stop.{Stop}
use Rattle.wasm_instr.specs.wasm_grammar.Grammar.{SpellsByte, SpellsU32, SpellsName, SpellsSized, Then}
use Rattle.wasm_instr.specs.wasm_grammar.Reading.{Read, ◌>>=◌, tag_at, u32_at, name_at, part_at, sized_at}

-- ---- the grammar

-- So many iterations of the same part (Core 5.1.1).
abbrev pub Repeated : ℕ → (List ℕ → Type 0) → List ℕ → Type 0
Repeated zero Part bytes = bytes ≡ []
Repeated (suc n) Part bytes = Then Part (Repeated n Part) bytes

-- What a custom section holds: a name, and then any bytes (Core 5.5.3).
abbrev pub BeginsWithName : List ℕ → Type 0
BeginsWithName bytes = (name : List ℕ) × (spelling : List ℕ) × (rest : List ℕ) × SpellsName name spelling × (bytes ≡ spelling ++ rest)

-- A custom section: the id 00, the size, and its contents (Core 5.5.3). It says nothing of the
-- module.
abbrev pub IsCustom : List ℕ → Type 0
IsCustom = Then (SpellsByte 0) (SpellsSized BeginsWithName)

-- Custom sections, one after another, or none.
abbrev pub AreCustoms : List ℕ → Type 0
AreCustoms bytes = (n : ℕ) × Repeated n IsCustom bytes

-- A section that has a place in the order: its id, the size, and its contents. It may be left out,
-- and the module then has what an absent one stands for (Core 5.5.2).
abbrev pub SpellsSection : {A : Type 0} → ℕ → A → (A → List ℕ → Type 0) → A → List ℕ → Type 0
SpellsSection id absent Contents x bytes =
    ((x ≡ absent) × (bytes ≡ [])) ⊎ Then (SpellsByte id) (SpellsSized (Contents x)) bytes

-- A number that is given.
abbrev pub SpellsGiven : Option ℕ → List ℕ → Type 0
SpellsGiven None bytes = ⊥
SpellsGiven (Some n) bytes = SpellsU32 n bytes

-- ---- reading

-- The rest, behind a custom section.
unfoldable pub custom_at : ℕ → List ℕ → Result (List ℕ) Stop
custom_at end bytes = do
  rest ← tag_at 0 end bytes
  part ← part_at end rest
  name ← name_at (end - length part.1) part.0
  Ok part.1

-- Whether the first byte is this one.
abbrev pub begins : ℕ → List ℕ → Bool
begins id [] = false
begins id (byte ∷ rest) = byte == id

-- The rest, behind all custom sections, of which there are so many at most.
unfoldable pub customs_at : ℕ → ℕ → List ℕ → Result (List ℕ) Stop
customs_at zero end bytes = Ok bytes
customs_at (suc n) end bytes =
    if begins 0 bytes then (custom_at end bytes >>= λ rest. customs_at n end rest) else Ok bytes

-- A section, where the first byte is its id. Else it is left out.
unfoldable pub section_at : {A : Type 0} → ℕ → A → Read A → Read A
section_at id absent contents end bytes =
    if begins id bytes then sized_at contents end (drop 1 bytes) else Ok (absent, bytes)

-- A section, and the custom sections behind it.
unfoldable pub next_at : {A : Type 0} → ℕ → A → Read A → Read A
next_at id absent contents end bytes = do
  x ← section_at id absent contents end bytes
  rest ← customs_at (length x.1) end x.1
  Ok (x.0, rest)

-- A number that is given.
unfoldable pub given_at : Read (Option ℕ)
given_at end bytes = do
  n ← u32_at end bytes
  Ok (Some n.0, n.1)
