-- Which bytes spell a number.
-- Core Specification 2.0, "Binary Format, Values, Integers" (LEB128): an integer of N bits takes at most ceil(N / 7) bytes,
-- and in a byte at that length the bits past the N-th are 0, or copies of the sign. Longer spellings than the shortest
-- are allowed within that length.
use Rattle.std.specs.Prelude.{◌≡◌, ℕ, ◌+◌, ◌-◌, ◌*◌, ◌%◌, ◌^◌, ◌<◌, ◌≤◌, ◌==◌, ◌||◌, Bool, false, IsTrue, List, [], ◌∷◌, length, take, slice_index, nat_lt, nat_le, if◌then◌else◌, ℤ, pos, ◌-ℤ◌}
use Rattle.std.specs.List.{AllByRecursion}
use Rattle.leb_codec.specs.declared.form.Form.{Form}
use Rattle.leb_codec.specs.declared.form.Form.TheVariants.{U32, S32, S33, S64}

-- how long a spelling may be: ceil(32 / 7), ceil(33 / 7) and ceil(64 / 7) bytes
abbrev pub greatest_of : Form → ℕ
greatest_of U32 = 5
greatest_of S32 = 5
greatest_of S33 = 5
greatest_of S64 = 10

-- whether a byte below 128 may stand at that length: of 32, 33 and 64 bits 4, 5 and 1 are left for it
abbrev pub is_allowed : Form → ℕ → Bool
is_allowed U32 tail = nat_lt tail 16
is_allowed S32 tail = nat_lt tail 8 || nat_le 120 tail
is_allowed S33 tail = nat_lt tail 16 || nat_le 112 tail
is_allowed S64 tail = (tail == 0) || (tail == 127)

-- a spelling goes on as long as bit 7 is set: the last byte alone is below 128
abbrev pub EndsOnce : List ℕ → Type 0
EndsOnce [] = ⊥
EndsOnce (b ∷ []) = b < 128
EndsOnce (b ∷ c ∷ bytes) = (128 ≤ b) × EndsOnce (c ∷ bytes)

-- the byte at the end of a spelling
abbrev pub last_byte : List ℕ → ℕ
last_byte bytes = slice_index bytes (length bytes - 1)

-- the bytes spell some number
pub record IsSpelling (form : Form) (bytes : List ℕ) : Type 0 where
  pub within : length bytes ≤ greatest_of form
  pub ends : EndsOnce bytes
  pub tail : length bytes ≡ greatest_of form → IsTrue (is_allowed form (last_byte bytes))

-- the sum of the low seven bits of byte i times 128 ^ i
abbrev pub magnitude : List ℕ → ℕ
magnitude [] = 0
magnitude (b ∷ bytes) = b % 128 + 128 * magnitude bytes

-- with a sign, in two's complement: the same, less 128 ^ length where the last byte has bit 6 set
abbrev pub signed_value : List ℕ → ℤ
signed_value bytes = if nat_lt (last_byte bytes) 64 then pos (magnitude bytes) else pos (magnitude bytes) -ℤ pos (128 ^ length bytes)

-- The bytes spell this number in a form. value is magnitude where the form has no sign, and signed_value where it has one.
pub record Spells {N : Type 0} (value : List ℕ → N) (form : Form) (bytes : List ℕ) (number : N) : Type 0 where
  pub spelled : IsSpelling form bytes
  pub value_is : number ≡ value bytes

-- The first n of these bytes spell the number.
pub record IsAtFront {N : Type 0} (value : List ℕ → N) (form : Form) (bytes : List ℕ) (found : N × ℕ) : Type 0 where
  pub held : found.1 ≤ length bytes
  pub spells : Spells value form (take found.1 bytes) found.0

-- The bytes end before a byte below 128 and before the greatest length.
pub record IsShort (form : Form) (bytes : List ℕ) : Type 0 where
  pub ended : length bytes < greatest_of form
  pub high : AllByRecursion (λ b. 128 ≤ b) bytes

-- The bytes up to the greatest length are all from 128 on.
pub record IsLong (form : Form) (bytes : List ℕ) : Type 0 where
  pub reaches : greatest_of form ≤ length bytes
  pub high : AllByRecursion (λ b. 128 ≤ b) (take (greatest_of form) bytes)

-- The bytes end once, at the greatest length, in a byte that the form does not allow there.
pub record IsBadTail (form : Form) (bytes : List ℕ) : Type 0 where
  pub reaches : greatest_of form ≤ length bytes
  pub ends : EndsOnce (take (greatest_of form) bytes)
  pub tail : is_allowed form (slice_index bytes (greatest_of form - 1)) ≡ false
