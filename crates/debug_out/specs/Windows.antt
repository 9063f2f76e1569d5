-- What the windows of the joined sections hold.
use Rattle.std.specs.Prelude.{◌≡◌, ℕ, ◌+◌, ◌≤◌, pos, ◌+ℤ◌, true, List, [], ◌∷◌, ◌++◌, flat_map, length, slice_range, Contains, Option, Some, None, Ok}
use Rattle.std.specs.List.{AllByRecursion}
use Rattle.leb_codec.specs.Shortest.{u32}
use Rattle.reloc_section.specs.declared.entry.Reloc.{Reloc}
use Rattle.reloc_apply.specs.Windows.{bits32, little}
use Rattle.image_emit.specs.Bytes.{sized}
use Rattle.debug_rules.specs.Faults.{Input, Debug, debugs, lie_apart}
use Rattle.debug_rules.specs.Joined.{Places, place_at, written, dead_word}
use Rattle.debug_out.specs.Grouped.{payload_len}

-- the windows of the section rise, don't overlap and lie in it
abbrev pub Stands : Debug → Type 0
Stands d = lie_apart (length d.section.content) 0 d.relocs ≡ true

-- each window lies in so many bytes
abbrev pub InBounds : ℕ → List Reloc → Type 0
InBounds len rs = AllByRecursion (λ r. r.offset + 4 ≤ len) rs

-- what stands before the contributions of a name, which have so many bytes
abbrev pub head_of : List ℕ → ℕ → List ℕ
head_of name len = 0 ∷ u32 (payload_len name len) ++ sized name

-- contributions, by the table of where sections begin
abbrev pub contents_by : List (List (Option ℕ)) → Places → List Debug → List ℕ
contents_by rows p ds = flat_map (λ d. written (place_at rows d.object) p d) ds

-- In the bytes stands the contribution of a debug section, as long as it is there, and in it a window holds this word.
abbrev pub Holds : List ℕ → Debug → Reloc → ℕ → Type 0
Holds tail d r word = (front : List ℕ) × (content : List ℕ) × (rest : List ℕ) × (tail ≡ front ++ content ++ rest) × (length content ≡ length d.section.content) × (slice_range content r.offset (r.offset + 4) ≡ little word)

-- A window for a place in a function that is live holds the place of that function and the addend, modulo 2^32.
abbrev pub LiveOffsets : List Input → Places → List ℕ → Type 0
LiveOffsets inputs p tail = (all : List Debug) → debugs 0 inputs ≡ Ok all → (d : Debug) → Contains all d → (r : Reloc) → Contains d.relocs r → r.kind ≡ 8
    → (n : ℕ) → place_at p.bodies d.object r.index ≡ Some n → Holds tail d r (bits32 (pos n +ℤ r.addend))

-- A window for a place in a function that isn't there holds the dead word of its section.
abbrev pub DeadOffsets : List Input → Places → List ℕ → Type 0
DeadOffsets inputs p tail = (all : List Debug) → debugs 0 inputs ≡ Ok all → (d : Debug) → Contains all d → (r : Reloc) → Contains d.relocs r → r.kind ≡ 8
    → place_at p.bodies d.object r.index ≡ None → Holds tail d r (dead_word d.section.name)
