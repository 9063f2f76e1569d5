-- Reading from left to right: where the number at the front ends, and which number it is.
-- Core Specification 2.0, "Binary Format, Values, Integers".
use Rattle.std.specs.Prelude.{ℕ, zero, suc, ◌-◌, ◌%◌, ◌^◌, ◌&&◌, ◌==◌, List, [], ◌∷◌, take, slice_index, Result, Ok, Err, nat_lt, if◌then◌else◌, not}
use Rattle.leb_codec.specs.declared.fault.LebFault.{LebFault}
use Rattle.leb_codec.specs.declared.fault.LebFault.TheVariants.{Short, Long, BadTail}
use Rattle.leb_codec.specs.Spelling.{greatest_of, is_allowed, magnitude}
use Rattle.leb_codec.specs.declared.form.Form.{Form}

-- one byte more
abbrev pub one_more : Result ℕ LebFault → Result ℕ LebFault
one_more (Ok n) = Ok (suc n)
one_more (Err e) = Err e

-- where the first byte below 128 ends, among at most so many bytes
unfoldable pub end_within : ℕ → List ℕ → Result ℕ LebFault
end_within zero bytes = Err Long
end_within (suc n) [] = Err Short
end_within (suc n) (b ∷ bytes) = if nat_lt b 128 then Ok 1 else one_more (end_within n bytes)

-- that end, unless the byte at the greatest length may not stand there
abbrev pub checked : Form → List ℕ → Result ℕ LebFault → Result ℕ LebFault
checked form bytes (Ok n) = if (n == greatest_of form) && not (is_allowed form (slice_index bytes (n - 1))) then Err BadTail else Ok n
checked form bytes (Err e) = Err e

-- how many bytes the number at the front takes
unfoldable pub end_of : Form → List ℕ → Result ℕ LebFault
end_of form bytes = checked form bytes (end_within (greatest_of form) bytes)

-- the value of so many bytes, and how many they are
abbrev pub valued : {N : Type 0} → (List ℕ → N) → List ℕ → Result ℕ LebFault → Result (N × ℕ) LebFault
valued value bytes (Ok n) = Ok (value (take n bytes), n)
valued value bytes (Err e) = Err e

-- The number at the front and how many bytes it takes, or why there is none. value is magnitude where the form has no
-- sign, and signed_value where it has one.
unfoldable pub number_at : {N : Type 0} → (List ℕ → N) → Form → List ℕ → Result (N × ℕ) LebFault
number_at value form bytes = valued value bytes (end_of form bytes)

-- the low 64 bits of a number: all of it, unless it takes ten bytes
abbrev pub low_bits : List ℕ → ℕ
low_bits bytes = magnitude bytes % 2 ^ 64
