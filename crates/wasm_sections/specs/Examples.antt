-- Worked examples.
use Rattle.std.specs.Prelude.{◌≡◌, [], ◌∷◌, ◌++◌, Ok, Err}
use Rattle.std.proofs.Common.{refl}
use Rattle.wasm_grammar.specs.leb_codec.Reading.{number_at, end_of, end_within}
use Rattle.wasm_grammar.specs.Reading.{u32_at}
use Rattle.wasm_sections.specs.declared.fault.FrameFault.TheVariants.{BadHeader, BadSize, BadId, BadOrder}
use Rattle.wasm_sections.specs.Sections.{header, span_at}
use Rattle.wasm_sections.specs.Reading.{frame_at, sections_at, section_at}

-- The header alone is a module of no sections.
empty_module : frame_at header ≡ Ok []
unfolding frame_at sections_at
empty_module = refl

-- A type section of one byte, a custom section of two, and an empty code section.
three_sections : frame_at (header ++ 0x01 ∷ 0x01 ∷ 0x00 ∷ 0x00 ∷ 0x02 ∷ 0x01 ∷ 0x61 ∷ 0x0a ∷ 0x00 ∷ []) ≡ Ok (span_at 1 10 1 ∷ span_at 0 13 2 ∷ span_at 10 17 0 ∷ [])
unfolding frame_at sections_at section_at u32_at number_at end_of end_within
three_sections = refl

-- A size of 6, and one byte.
size_past_end : frame_at (header ++ 0x01 ∷ 0x06 ∷ 0x00 ∷ []) ≡ Err (BadSize 8)
unfolding frame_at sections_at section_at u32_at number_at end_of end_within
size_past_end = refl

-- The tag section comes before the global section.
tags_late : frame_at (header ++ 0x06 ∷ 0x00 ∷ 0x0d ∷ 0x00 ∷ []) ≡ Err (BadOrder 10)
unfolding frame_at sections_at section_at u32_at number_at end_of end_within
tags_late = refl

-- There is no section 14, whatever its size.
no_such_id : frame_at (header ++ 0x0e ∷ []) ≡ Err (BadId 8)
unfolding frame_at sections_at section_at
no_such_id = refl

-- The version is 1.
other_version : frame_at (0x00 ∷ 0x61 ∷ 0x73 ∷ 0x6d ∷ 0x02 ∷ 0x00 ∷ 0x00 ∷ 0x00 ∷ []) ≡ Err BadHeader
unfolding frame_at
other_version = refl
