-- Worked examples.
use Rattle.std.specs.Prelude.{◌≡◌, [], ◌∷◌, Ok, Err, pos, negsuc}
use Rattle.std.proofs.Common.{refl}
use Rattle.wasm_grammar.specs.leb_codec.Reading.{number_at, end_of, end_within}
use Rattle.wasm_grammar.specs.wl_base.declared.item.Item.TheVariants as items
use Rattle.wasm_grammar.specs.declared.fault.Stop.TheVariants.{Broken, Foreign}
use Rattle.wasm_grammar.specs.Reading.{u32_at, s32_at, many_at, vector_at, whole}
use Rattle.reloc_section.specs.Relocs.{reloc_at, reloc_section_at, relocs_at}

-- In section 2, the call at byte 4 of the payload is one of the function that symbol 1 names.
call_here : relocs_at 10 (2 ∷ 1 ∷ 0 ∷ 4 ∷ 1 ∷ []) ≡ Ok (record { target = 2; entries = record { kind = 0; offset = 4; index = 1; addend = pos 0 } ∷ [] })
unfolding reloc_section_at reloc_at whole vector_at many_at u32_at number_at end_of end_within
call_here = refl

-- In section 3, the constant at byte 128 is the address of symbol 5 less 4.
address_here : relocs_at 10 (3 ∷ 1 ∷ 4 ∷ 0x80 ∷ 0x01 ∷ 5 ∷ 0x7c ∷ []) ≡ Ok (record { target = 3; entries = record { kind = 4; offset = 128; index = 5; addend = negsuc 3 } ∷ [] })
unfolding reloc_section_at reloc_at whole vector_at many_at u32_at s32_at number_at end_of end_within
address_here = refl

-- The type of tags is foreign, whatever stands behind it.
tag_foreign : relocs_at 10 (3 ∷ 1 ∷ 10 ∷ 0x80 ∷ []) ≡ Err (Foreign (items.RelocType 10))
unfolding reloc_section_at reloc_at whole vector_at many_at u32_at number_at end_of end_within
tag_foreign = refl

-- The bytes reach to 10, so the one that is left over stands at 9.
left_over : relocs_at 10 (2 ∷ 0 ∷ 0 ∷ []) ≡ Err (Broken 9)
unfolding reloc_section_at whole vector_at many_at u32_at number_at end_of end_within
left_over = refl
