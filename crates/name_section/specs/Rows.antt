-- Worked sections.
use Rattle.std.specs.Prelude.{◌≡◌, [], ◌∷◌, refl, codes}
use Rattle.leb_codec.specs.Shortest.{u32}
use Rattle.name_section.specs.Names.{name_section}

-- As wasm-ld writes it for an import and two functions, of which the second has number 2; made by hand without its other subsections.
two_worked : name_section (record { index = 0; name = codes "imp" } ∷ record { index = 2; name = codes "_start" } ∷ []) ≡
    0x00 ∷ 0x15
    ∷ 0x04 ∷ 0x6E ∷ 0x61 ∷ 0x6D ∷ 0x65
    ∷ 0x01 ∷ 0x0E
    ∷ 0x02
    ∷ 0x00 ∷ 0x03 ∷ 0x69 ∷ 0x6D ∷ 0x70
    ∷ 0x02 ∷ 0x06 ∷ 0x5F ∷ 0x73 ∷ 0x74 ∷ 0x61 ∷ 0x72 ∷ 0x74
    ∷ []
unfolding name_section u32
two_worked = refl

none_worked : name_section [] ≡ []
unfolding name_section
none_worked = refl
