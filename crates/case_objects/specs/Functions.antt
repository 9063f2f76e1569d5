-- How many functions a module defines, read off its function section.
use Rattle.std.specs.Prelude.{ℕ, zero, suc, List, [], ◌∷◌, length, Option, Some, None, Result, Ok, Err, ◌==◌, if◌then◌else◌}
use Rattle.wasm_instr.specs.wasm_grammar.declared.fault.Stop.{Stop}
use Rattle.wasm_instr.specs.wasm_grammar.Reading.{Read, ◌>>=◌, byte_at, part_at, u32_at}
use Rattle.wasm_sections.specs.Sections.{header}
use Rattle.wasm_module.specs.ModuleReading.{behind}

-- A section: its id and its contents.
pub record Section : Type 0 where
  pub id : ℕ
  pub contents : List ℕ

-- The section at the front: its id, the u32 size of its contents, and the contents (Core 5.5.2).
unfoldable pub section_at : Read Section
section_at end bytes = do
  id ← byte_at end bytes
  part ← part_at end id.1
  Ok (record { id = id.0; contents = part.0 }, part.1)

-- The sections that the bytes are, one behind the other and at most so many. Each takes a byte at least.
unfoldable pub sections_at : ℕ → ℕ → List ℕ → Result (List Section) Stop
sections_at n end [] = Ok []
sections_at zero end (byte ∷ rest) = Ok []
sections_at (suc n) end (byte ∷ rest) = do
  first ← section_at end (byte ∷ rest)
  others ← sections_at n end first.1
  Ok (first.0 ∷ others)

-- The contents of the first section of this id.
abbrev pub contents_of : ℕ → List Section → Option (List ℕ)
contents_of id [] = None
contents_of id (s ∷ rest) = if s.id == id then Some s.contents else contents_of id rest

-- A vector begins with its count (Core 5.1.3). A section that isn't there stands for a vector of nothing (Core 5.5.2).
abbrev pub count_of : ℕ → Option (List ℕ) → Result ℕ Stop
count_of end None = Ok 0
count_of end (Some contents) = u32_at end contents >>= λ count. Ok count.0

-- The magic and the version, and sections (Core 5.5.16). The function section has the id 3, and is the vector of the
-- functions' types (Core 5.5.6).
unfoldable pub functions_at : ℕ → List ℕ → Result ℕ Stop
functions_at end bytes = do
  rest ← behind end header bytes
  sections ← sections_at (length rest) end rest
  count_of end (contents_of 3 sections)

-- The number, where there is one.
abbrev pub or_none : Result ℕ Stop → ℕ
or_none (Ok n) = n
or_none (Err e) = 0

-- How many functions the module defines. Bytes that aren't the magic, the version and sections define none.
abbrev pub functions_in : List ℕ → ℕ
functions_in bytes = or_none (functions_at (length bytes) bytes)

-- ---- in one walk

-- What is found first: what was found before, or what comes later.
abbrev pub found_first : Option (List ℕ) → Option (List ℕ) → Option (List ℕ)
found_first (Some contents) later = Some contents
found_first None later = later

-- What is found once this section was seen.
abbrev pub found_at : ℕ → Option (List ℕ) → Section → Option (List ℕ)
found_at id before s = found_first before (if s.id == id then Some s.contents else None)

-- What is found once these sections were seen.

abbrev pub found_with : ℕ → Option (List ℕ) → Result (List Section) Stop → Result (Option (List ℕ)) Stop
found_with id before read = read >>= λ sections. Ok (found_first before (contents_of id sections))
