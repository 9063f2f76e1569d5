-- Worked examples.
use Rattle.std.specs.Prelude.{◌≡◌, [], ◌∷◌, Ok, Err}
use Rattle.std.proofs.Common.{refl}
use Rattle.leb_codec.specs.Reading.{number_at, end_of, end_within}
use Rattle.wasm_grammar.specs.declared.fault.Stop.TheVariants.{Broken}
use Rattle.wasm_grammar.specs.Reading.{u32_at, many_at, vector_at, part_at, sized_at, whole}

-- 80 01 is 128, and what follows is the rest.
u32_here : u32_at 10 (0x80 ∷ 0x01 ∷ 0x05 ∷ []) ≡ Ok (128, 0x05 ∷ [])
unfolding u32_at number_at end_of end_within
u32_here = refl

-- The bytes reach to 10, so the number that doesn't end stands at 8.
u32_broken : u32_at 10 (0x80 ∷ 0x80 ∷ []) ≡ Err (Broken 8)
unfolding u32_at number_at end_of end_within
u32_broken = refl

-- Two numbers, 1 and 2.
vector_here : vector_at u32_at 10 (0x02 ∷ 0x01 ∷ 0x02 ∷ 0x09 ∷ []) ≡ Ok (1 ∷ 2 ∷ [], 0x09 ∷ [])
unfolding vector_at many_at u32_at number_at end_of end_within
vector_here = refl

-- A count of three and two numbers: broken where the third should begin.
vector_broken : vector_at u32_at 10 (0x03 ∷ 0x01 ∷ 0x02 ∷ []) ≡ Err (Broken 10)
unfolding vector_at many_at u32_at number_at end_of end_within
vector_broken = refl

-- A size of three and two bytes: broken at the size.
part_broken : part_at 10 (0x03 ∷ 0x01 ∷ 0x02 ∷ []) ≡ Err (Broken 7)
unfolding part_at u32_at number_at end_of end_within
part_broken = refl

-- A size of two and a number of one byte: broken at the byte that is left over.
sized_broken : sized_at u32_at 10 (0x02 ∷ 0x01 ∷ 0x02 ∷ 0x00 ∷ []) ≡ Err (Broken 8)
unfolding sized_at whole part_at u32_at number_at end_of end_within
sized_broken = refl
