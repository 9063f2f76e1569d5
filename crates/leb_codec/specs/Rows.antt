-- Worked numbers: what the definitions compute.
use Rattle.std.specs.Prelude.{◌≡◌, ◌-◌, ◌^◌, [], ◌∷◌, refl, pos, negsuc, true, false}
use Rattle.leb_codec.specs.declared.form.Form.TheVariants.{U32, S32, S33, S64}
use Rattle.leb_codec.specs.Spelling.{is_allowed, magnitude, signed_value}
use Rattle.leb_codec.specs.Shortest.{u32, u32_padded, s32, s32_padded, s64}

u32_127 : u32 127 ≡ 0x7F ∷ []
unfolding u32
u32_127 = refl

u32_128 : u32 128 ≡ 0x80 ∷ 1 ∷ []
unfolding u32
u32_128 = refl

u32_65536 : u32 65536 ≡ 0x80 ∷ 0x80 ∷ 4 ∷ []
unfolding u32
u32_65536 = refl

u32_greatest : u32 (2 ^ 32 - 1) ≡ 0xFF ∷ 0xFF ∷ 0xFF ∷ 0xFF ∷ 0x0F ∷ []
unfolding u32
u32_greatest = refl

s32_63 : s32 (pos 63) ≡ 0x3F ∷ []
unfolding s32
s32_63 = refl

s32_64 : s32 (pos 64) ≡ 0xC0 ∷ 0 ∷ []
unfolding s32
s32_64 = refl

s32_1024 : s32 (pos 1024) ≡ 0x80 ∷ 8 ∷ []
unfolding s32
s32_1024 = refl

s32_66576 : s32 (pos 66576) ≡ 0x90 ∷ 0x88 ∷ 4 ∷ []
unfolding s32
s32_66576 = refl

s32_minus_16 : s32 (negsuc 15) ≡ 0x70 ∷ []
unfolding s32
s32_minus_16 = refl

s32_minus_64 : s32 (negsuc 63) ≡ 0x40 ∷ []
unfolding s32
s32_minus_64 = refl

s32_minus_128 : s32 (negsuc 127) ≡ 0x80 ∷ 0x7F ∷ []
unfolding s32
s32_minus_128 = refl

s32_least : s32 (negsuc (2 ^ 31 - 1)) ≡ 0x80 ∷ 0x80 ∷ 0x80 ∷ 0x80 ∷ 0x78 ∷ []
unfolding s32
s32_least = refl

s64_least : s64 (negsuc (2 ^ 63 - 1)) ≡ 0x80 ∷ 0x80 ∷ 0x80 ∷ 0x80 ∷ 0x80 ∷ 0x80 ∷ 0x80 ∷ 0x80 ∷ 0x80 ∷ 0x7F ∷ []
unfolding s64
s64_least = refl

u32_padded_1 : u32_padded 1 ≡ 0x81 ∷ 0x80 ∷ 0x80 ∷ 0x80 ∷ 0 ∷ []
unfolding u32_padded
u32_padded_1 = refl

u32_padded_high : u32_padded (2 ^ 31) ≡ 0x80 ∷ 0x80 ∷ 0x80 ∷ 0x80 ∷ 8 ∷ []
unfolding u32_padded
u32_padded_high = refl

s32_padded_minus_1 : s32_padded (negsuc 0) ≡ 0xFF ∷ 0xFF ∷ 0xFF ∷ 0xFF ∷ 0x7F ∷ []
unfolding s32_padded
s32_padded_minus_1 = refl

s32_padded_1028 : s32_padded (pos 1028) ≡ 0x84 ∷ 0x88 ∷ 0x80 ∷ 0x80 ∷ 0 ∷ []
unfolding s32_padded
s32_padded_1028 = refl

-- the other way: what bytes say
says_65536 : magnitude (0x80 ∷ 0x80 ∷ 4 ∷ []) ≡ 65536
says_65536 = refl

says_1_padded : magnitude (0x81 ∷ 0x80 ∷ 0x80 ∷ 0x80 ∷ 0 ∷ []) ≡ 1
says_1_padded = refl

says_64 : signed_value (0xC0 ∷ 0 ∷ []) ≡ pos 64
says_64 = refl

says_minus_128 : signed_value (0x80 ∷ 0x7F ∷ []) ≡ negsuc 127
says_minus_128 = refl

says_minus_16 : signed_value (0x70 ∷ []) ≡ negsuc 15
says_minus_16 = refl

says_least : signed_value (0x80 ∷ 0x80 ∷ 0x80 ∷ 0x80 ∷ 0x80 ∷ 0x80 ∷ 0x80 ∷ 0x80 ∷ 0x80 ∷ 0x7F ∷ []) ≡ negsuc (2 ^ 63 - 1)
says_least = refl

-- which bytes may stand at the greatest length
allowed_u32 : is_allowed U32 0x0F ≡ true
allowed_u32 = refl

refused_u32 : is_allowed U32 0x10 ≡ false
refused_u32 = refl

refused_s32 : is_allowed S32 0x08 ≡ false
refused_s32 = refl

allowed_s32 : is_allowed S32 0x78 ≡ true
allowed_s32 = refl

refused_s33 : is_allowed S33 0x6F ≡ false
refused_s33 = refl

allowed_s64 : is_allowed S64 0x7F ≡ true
allowed_s64 = refl

refused_s64 : is_allowed S64 0x7E ≡ false
refused_s64 = refl
