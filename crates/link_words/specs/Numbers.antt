-- Numbers as words spell them: decimal without a needless zero in front, or hexadecimal behind `0x`, where zeros may lead.
use Rattle.std.specs.Prelude.{◌≡◌, ◌<◌, ◌≤◌, ◌^◌, ℕ, Bool, ◌&&◌, ◌==◌, ◌+◌, ◌-◌, ◌*◌, ◌%◌, List, [], ◌∷◌, take, drop, codes, length, nat_lt, nat_le, if◌then◌else◌, Option, Some, None, slice_index}
use Rattle.std.specs.Str.{bytes_eq}
use Rattle.link_plan.specs.Plan.{IsMemory}
use Rattle.link_words.specs.declared.range.Range.{Range}
use Rattle.link_words.specs.declared.range.Range.TheVariants.{Address, Stack, Memory, Workers, Cases}

abbrev pub is_between : ℕ → ℕ → ℕ → Bool
is_between least most n = nat_le least n && nat_le n most

-- the value of the digit 0 to 9, a to f or A to F, and 16 where the byte is none
abbrev pub digit_of : ℕ → ℕ
digit_of b =
    if is_between 48 57 b then b - 48
    else if is_between 97 102 b then b - 87
    else if is_between 65 70 b then b - 55
    else 16

-- the number that digits spell behind those whose value is given
abbrev pub digits_of : ℕ → ℕ → List ℕ → Option ℕ
digits_of base value [] = Some value
digits_of base value (b ∷ bs) = if nat_lt (digit_of b) base then digits_of base (value * base + digit_of b) bs else None

-- at least one digit
abbrev pub some_digits : ℕ → List ℕ → Option ℕ
some_digits base bytes = if length bytes == 0 then None else digits_of base 0 bytes

abbrev pub is_hexadecimal : List ℕ → Bool
is_hexadecimal bytes = bytes_eq (take 2 bytes) (codes "0x")

-- a zero with more behind it
abbrev pub has_needless_zero : List ℕ → Bool
has_needless_zero bytes = nat_lt 1 (length bytes) && (slice_index bytes 0 == 48)

-- the number that a word spells
abbrev pub number_of : List ℕ → Option ℕ
number_of bytes =
    if is_hexadecimal bytes then some_digits 16 (drop 2 bytes)
    else if has_needless_zero bytes then None
    else some_digits 10 bytes

-- whether a range has the number
abbrev pub is_in : Range → ℕ → Bool
is_in Address n = nat_lt n (2 ^ 32)
is_in Stack n = nat_lt n (2 ^ 32) && (n % 16 == 0)
is_in Memory n = nat_le n (2 ^ 32) && (n % 65536 == 0)
is_in Workers n = is_between 1 64 n
is_in Cases n = is_between 1 20000 n

-- what the numbers of a range keep
abbrev pub IsIn : Range → ℕ → Type 0
IsIn Address n = n < 2 ^ 32
IsIn Stack n = (n < 2 ^ 32) × (n % 16 ≡ 0)
IsIn Memory n = IsMemory n
IsIn Workers n = (1 ≤ n) × (n ≤ 64)
IsIn Cases n = (1 ≤ n) × (n ≤ 20000)

-- the greatest number of a range
abbrev pub most_of : Range → ℕ
most_of Address = 2 ^ 32 - 1
most_of Stack = 2 ^ 32 - 1
most_of Memory = 2 ^ 32
most_of Workers = 64
most_of Cases = 20000

abbrev pub kept : (ℕ → Bool) → Option ℕ → Option ℕ
kept test None = None
kept test (Some n) = if test n then Some n else None

abbrev pub up_to : ℕ → Option ℕ → Option ℕ
up_to most n = kept (λ n. nat_le n most) n

-- the number of the range that a word spells
abbrev pub number_in : Range → List ℕ → Option ℕ
number_in range bytes = kept (is_in range) (number_of bytes)
