-- Worked windows: what the definitions compute.
use Rattle.std.specs.Prelude.{◌≡◌, ◌^◌, [], ◌∷◌, Ok, Err, replicate, refl, pos, negsuc}
use Rattle.leb_codec.specs.Shortest.{u32_padded, s32_padded}
use Rattle.wl_base.specs.declared.fault.What.TheVariants.{Reference}
use Rattle.wl_base.specs.declared.layout_error.LayoutError.TheVariants.{Overflow}
use Rattle.reloc_apply.specs.declared.window.Form.TheVariants.{Unsigned5, Signed5, Word4}
use Rattle.reloc_apply.specs.Windows.{bits32, filled, spelled, patches_of, held_on, value_overflow}

-- windows at 1 and 8 of twelve bytes
two_windows : filled (record { place = 1; form = Unsigned5; value = 1 } ∷ record { place = 8; form = Word4; value = 258 } ∷ []) (replicate 12 0xFF)
    ≡ 0xFF ∷ 0x81 ∷ 0x80 ∷ 0x80 ∷ 0x80 ∷ 0 ∷ 0xFF ∷ 0xFF ∷ 2 ∷ 1 ∷ 0 ∷ 0 ∷ []
unfolding u32_padded
two_windows = refl

address_1024 : spelled Signed5 1024 ≡ 0x80 ∷ 0x88 ∷ 0x80 ∷ 0x80 ∷ 0 ∷ []
unfolding s32_padded
address_1024 = refl

address_2_31 : spelled Signed5 (bits32 (pos (2 ^ 31))) ≡ 0x80 ∷ 0x80 ∷ 0x80 ∷ 0x80 ∷ 0x78 ∷ []
unfolding s32_padded
address_2_31 = refl

minus_1 : spelled Signed5 (bits32 (negsuc 0)) ≡ 0xFF ∷ 0xFF ∷ 0xFF ∷ 0xFF ∷ 0x7F ∷ []
unfolding s32_padded
minus_1 = refl

word_minus_1 : spelled Word4 (bits32 (negsuc 0)) ≡ 0xFF ∷ 0xFF ∷ 0xFF ∷ 0xFF ∷ []
word_minus_1 = refl

with_addend : patches_of (record { place = 3; form = Word4; target = pos 1024; addend = pos 4 } ∷ []) ≡ Ok (record { patches = record { place = 3; form = Word4; value = 1028 } ∷ [] })
unfolding patches_of value_overflow
with_addend = refl

-- 1 - 2 has no unsigned spelling; it is answered before the window behind it
below_0 : patches_of (record { place = 0; form = Unsigned5; target = pos 1; addend = negsuc 1 } ∷ record { place = 5; form = Word4; target = pos (2 ^ 32); addend = pos 0 } ∷ [])
    ≡ Err (Overflow Reference (negsuc 0))
unfolding patches_of value_overflow
below_0 = refl

-- a window of data whose value is stored when the output is loaded holds 0 until then; the value is judged all the same
held : held_on [] (record { place = 3; form = Word4; target = pos 1024; addend = pos 4 }) ≡ Ok (record { place = 3; form = Word4; value = 0 } ∷ [])
held = refl

held_out_of_range : held_on [] (record { place = 3; form = Word4; target = pos (2 ^ 32); addend = pos 0 }) ≡ Err (Overflow Reference (pos (2 ^ 32)))
held_out_of_range = refl
