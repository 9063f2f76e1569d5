-- Which bytes are a frame of sections (WebAssembly Core Specification 2.0, sections 5.5.2 and
-- 5.5.16).
use Rattle.std.specs.Prelude.{◌≡◌, ℕ, ◌+◌, ◌-◌, ◌<◌, ◌≤◌, List, [], ◌∷◌, ◌++◌, length, nat_lt, ◌==◌, if◌then◌else◌, max}
use Rattle.wasm_grammar.specs.Grammar.{SpellsU32}
use Rattle.wasm_sections.specs.declared.section.SectionSpan.{SectionSpan}

-- Where a section stands in the order of a module (Core 5.5.16), from 1: type 1, import 2, function
-- 3, table 4, memory 5, tag 13, global 6, export 7, start 8, element 9, data count 12, code 10, data
-- 11. A custom section has no place in it. (The tag section is the exception handling proposal's.)
abbrev pub rank_of : ℕ → ℕ
rank_of id =
    if id == 0 then 0
    else (if nat_lt id 6 then id
    else (if id == 13 then 6
    else (if nat_lt id 10 then id + 1
    else (if id == 12 then 11
    else (if id == 10 then 12
    else (if id == 11 then 13
    else 0))))))

-- A section may come after one of the rank last: it is custom, or has a later place in the order.
abbrev pub IsInOrder : ℕ → ℕ → Type 0
IsInOrder last id = (0 < rank_of id) → last < rank_of id

abbrev pub span_at : ℕ → ℕ → ℕ → SectionSpan
span_at id start len = record { id = id; payload = record { start = start; len = len } }

-- The bytes, which reach to this end, are these sections one after another: of each its id, the u32
-- size of its payload, and the payload (Core 5.5.2). The greatest rank before them is last.
abbrev pub AreSections : ℕ → ℕ → List SectionSpan → List ℕ → Type 0
AreSections last end [] bytes = bytes ≡ []
AreSections last end (s ∷ ss) bytes =
    (size : List ℕ) × (payload : List ℕ) × (rest : List ℕ) × (bytes ≡ s.id ∷ (size ++ (payload ++ rest)))
    × (s.id ≤ 13) × SpellsU32 (length payload) size × IsInOrder last s.id
    × (s ≡ span_at s.id (end - length (payload ++ rest)) (length payload))
    × AreSections (max (rank_of s.id) last) end ss rest

-- The magic and the version (Core 5.5.16).
abbrev pub header : List ℕ
header = 0x00 ∷ 0x61 ∷ 0x73 ∷ 0x6d ∷ 0x01 ∷ 0x00 ∷ 0x00 ∷ 0x00 ∷ []

-- The file is the header and these sections, which cover all that follows it (Core 5.5.16).
abbrev pub IsFrame : List SectionSpan → List ℕ → Type 0
IsFrame ss bytes = (rest : List ℕ) × (bytes ≡ header ++ rest) × AreSections 0 (length bytes) ss rest
