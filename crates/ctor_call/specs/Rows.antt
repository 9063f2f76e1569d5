-- Worked bodies. The bytes are taken from the Core Specification by hand.
use Rattle.std.specs.Prelude.{◌≡◌, [], ◌∷◌, refl}
use Rattle.leb_codec.specs.Shortest.{u32_padded}
use Rattle.ctor_call.specs.Body.{ctor_body}

-- nothing is called
none_worked : ctor_body [] ≡ 0x00 ∷ 0x0B ∷ []
unfolding ctor_body
none_worked = refl

-- 3 is called, then 300, then 3 again
three_worked : ctor_body (3 ∷ 300 ∷ 3 ∷ []) ≡ 0x00
    ∷ 0x10 ∷ 0x83 ∷ 0x80 ∷ 0x80 ∷ 0x80 ∷ 0x00
    ∷ 0x10 ∷ 0xAC ∷ 0x82 ∷ 0x80 ∷ 0x80 ∷ 0x00
    ∷ 0x10 ∷ 0x83 ∷ 0x80 ∷ 0x80 ∷ 0x80 ∷ 0x00
    ∷ 0x0B ∷ []
unfolding ctor_body u32_padded
three_worked = refl
