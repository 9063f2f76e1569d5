-- Reading a frame from left to right: the sections, or the first fault.
--
-- The end is the place of the end of the bytes, so they stand at end less their length.
use Rattle.std.specs.Prelude.{◌≡◌, ℕ, zero, suc, ◌-◌, List, [], ◌∷◌, length, drop, Result, Ok, Err, nat_lt, nat_le, ◌==◌, ◌&&◌, if◌then◌else◌, max}
use Rattle.wasm_grammar.specs.declared.fault.Stop.{Stop}
use Rattle.wasm_grammar.specs.Reading.{u32_at}
use Rattle.wasm_sections.specs.declared.section.SectionSpan.{SectionSpan}
use Rattle.wasm_sections.specs.declared.fault.FrameFault.{FrameFault}
use Rattle.wasm_sections.specs.declared.fault.FrameFault.TheVariants.{BadHeader, BadSize, BadId, BadOrder, OutOfMemory}
use Rattle.wasm_sections.specs.Sections.{rank_of, span_at, header}

-- One step, and then what depends on its answer: the first fault from the left is the answer.
infixl 10 ◌>>=◌
abbrev pub ◌>>=◌ : {A B : Type 0} → Result A FrameFault → (A → Result B FrameFault) → Result B FrameFault
(Ok x) >>= f = f x
(Err e) >>= f = Err e

-- Reading gives this fault. Want of memory, which reading never gives, says nothing of the bytes.
abbrev pub Fails : {Y : Type 0} → FrameFault → Result Y FrameFault → Type 0
Fails OutOfMemory read = Unit {0}
Fails BadHeader read = read ≡ Err BadHeader
Fails (BadSize at) read = read ≡ Err (BadSize at)
Fails (BadId at) read = read ≡ Err (BadId at)
Fails (BadOrder at) read = read ≡ Err (BadOrder at)

-- What a call answered, seen by view, is what reading gives, unless memory ran out.
abbrev pub Gives : {X Y : Type 0} → (X → Y) → Result X FrameFault → Result Y FrameFault → Type 0
Gives view (Ok x) read = read ≡ Ok (view x)
Gives view (Err e) read = Fails e read

-- A size that is no u32 is a bad size.
abbrev pub or_bad_size : {A : Type 0} → ℕ → Result A Stop → Result A FrameFault
or_bad_size at (Ok x) = Ok x
or_bad_size at (Err e) = Err (BadSize at)

-- What is read of a section once its size is known: the size runs past the end, or the section comes
-- too late, or it is there.
abbrev pub sized_section : ℕ → ℕ → ℕ → ℕ → ℕ → List ℕ → Result (SectionSpan × List ℕ) FrameFault
sized_section last end at id size body =
    if nat_lt (length body) size then Err (BadSize at)
    else (if nat_lt 0 (rank_of id) && nat_le (rank_of id) last then Err (BadOrder at)
    else Ok (span_at id (end - length body) size, drop size body))

-- The section at the front and the bytes after it: id, size, order are judged in this order, and a
-- fault has the place of the id.
unfoldable pub section_at : ℕ → ℕ → List ℕ → Result (SectionSpan × List ℕ) FrameFault
section_at last end [] = Err (BadSize end)
section_at last end (id ∷ after) =
    if nat_lt 13 id then Err (BadId (end - length (id ∷ after)))
    else (or_bad_size (end - length (id ∷ after)) (u32_at end after) >>= λ size.
    sized_section last end (end - length (id ∷ after)) id size.0 size.1)

-- The sections that the bytes are, at most so many, of which each takes a byte at least.
unfoldable pub sections_at : ℕ → ℕ → ℕ → List ℕ → Result (List SectionSpan) FrameFault
sections_at n last end [] = Ok []
sections_at zero last end (b ∷ bytes) = Ok []
sections_at (suc n) last end (b ∷ bytes) = do
  s ← section_at last end (b ∷ bytes)
  others ← sections_at n (max (rank_of s.0.id) last) end s.1
  Ok (s.0 ∷ others)

-- The bytes behind these, which have to stand there.
abbrev pub behind : List ℕ → List ℕ → Result (List ℕ) FrameFault
behind [] bytes = Ok bytes
behind (t ∷ text) [] = Err BadHeader
behind (t ∷ text) (b ∷ bytes) = if b == t then behind text bytes else Err BadHeader

-- The header, and the sections (Core 5.5.16).
unfoldable pub frame_at : List ℕ → Result (List SectionSpan) FrameFault
frame_at bytes = do
  rest ← behind header bytes
  sections_at (length rest) 0 (length bytes) rest
