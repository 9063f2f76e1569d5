-- What the instructions on numbers compute (WebAssembly Core Specification 2.0, section 4.3.2). Numbers are their bits, so signed
-- order, division and shifts are said by the sign bit.
use Rattle.std.specs.Prelude.{ℕ, zero, suc, ◌+◌, ◌-◌, ◌*◌, ◌/◌, ◌%◌, ◌^◌, Bool, true, false, not, ◌&&◌, ◌==◌, List, [], ◌∷◌, Option, Some, None, nat_lt, nat_eq, nat_le, if◌then◌else◌, slice_index_or, bit_and, bit_or, bit_xor, count_ones}
use Rattle.std.specs.Int.Count.{count_leading_zeros, count_trailing_zeros}
use Rattle.wasm_types.specs.declared.value.ValType.{ValType}
use Rattle.wasm_types.specs.declared.value.ValType.TheVariants as types
use Rattle.run_rules.specs.declared.value.Value.{Value}
use Rattle.run_rules.specs.declared.value.Value.TheVariants.{I32, I64, F32, F64}
use Rattle.run_rules.specs.declared.value.Class.{Class}
use Rattle.run_rules.specs.declared.value.Class.TheVariants.{Tests, Compares, Ones, Twos, Converts, Carries, Unknown}
use Rattle.run_rules.specs.declared.trace.TrapKind.{TrapKind}
use Rattle.run_rules.specs.declared.trace.TrapKind.TheVariants.{DivideByZero, IntegerOverflow}

-- ---- values

abbrev pub bits : ValType → ℕ
bits types.I32 = 32
bits types.I64 = 64
bits types.F32 = 32
bits types.F64 = 64

-- the bits of a value of an integer type
abbrev pub number_in : ValType → Value → Option ℕ
number_in types.I32 (I32 n) = Some n
number_in types.I64 (I64 n) = Some n
number_in _ _ = None

-- the value of a type with these bits
abbrev pub value_of : ValType → ℕ → Value
value_of types.I32 n = I32 n
value_of types.I64 n = I64 n
value_of types.F32 n = F32 n
value_of types.F64 n = F64 n

abbrev pub type_of : Value → ValType
type_of (I32 n) = types.I32
type_of (I64 n) = types.I64
type_of (F32 n) = types.F32
type_of (F64 n) = types.F64

-- ---- signed numbers by their bits, at a width

abbrev pub flag : Bool → ℕ
flag true = 1
flag false = 0

-- the sign's weight moved up, so that signed order is order
unfoldable pub biased : ℕ → ℕ → ℕ
biased w a = (a + 2 ^ (w - 1)) % 2 ^ w

abbrev pub is_negative : ℕ → ℕ → Bool
is_negative w a = nat_le (2 ^ (w - 1)) a

abbrev pub negated : ℕ → ℕ → ℕ
negated w a = (2 ^ w - a) % 2 ^ w

abbrev pub magnitude : ℕ → ℕ → ℕ
magnitude w a = if is_negative w a then 2 ^ w - a else a

-- the low bits, as a signed number of the width
abbrev pub extended : ℕ → ℕ → ℕ → ℕ
extended low w a = let b = a % 2 ^ low in if is_negative low b then b + (2 ^ w - 2 ^ low) else b

-- ---- what is computed

-- a number, or a trap
pub data Outcome : Type 0 where
  Gives : ℕ → Outcome
  Breaks : TrapKind → Outcome

-- eq ne lt_s lt_u gt_s gt_u le_s le_u ge_s ge_u
abbrev pub comparisons : List (ℕ → ℕ → ℕ → Bool)
comparisons =
    (λ w a b. nat_eq a b)
    ∷ (λ w a b. not (nat_eq a b))
    ∷ (λ w a b. nat_lt (biased w a) (biased w b))
    ∷ (λ w a b. nat_lt a b)
    ∷ (λ w a b. nat_lt (biased w b) (biased w a))
    ∷ (λ w a b. nat_lt b a)
    ∷ (λ w a b. nat_le (biased w a) (biased w b))
    ∷ (λ w a b. nat_le a b)
    ∷ (λ w a b. nat_le (biased w b) (biased w a))
    ∷ (λ w a b. nat_le b a)
    ∷ []

abbrev pub compared : ℕ → ℕ → ℕ → ℕ → Bool
compared k = slice_index_or comparisons k (λ w a b. false)

-- clz ctz popcnt
abbrev pub ones : List (ℕ → ℕ → ℕ)
ones = (λ w a. count_leading_zeros w a) ∷ (λ w a. count_trailing_zeros w a) ∷ (λ w a. count_ones a) ∷ []

abbrev pub one_of : ℕ → ℕ → ℕ → ℕ
one_of k = slice_index_or ones k (λ w a. 0)

abbrev pub unless_zero : ℕ → Outcome → Outcome
unless_zero zero o = Breaks DivideByZero
unless_zero (suc b) o = o

abbrev pub quotient_signed : ℕ → ℕ → ℕ → ℕ
quotient_signed w a b =
    let q = magnitude w a / magnitude w b in
    if nat_eq (flag (is_negative w a)) (flag (is_negative w b)) then q else negated w q

abbrev pub remainder_signed : ℕ → ℕ → ℕ → ℕ
remainder_signed w a b = let r = magnitude w a % magnitude w b in if is_negative w a then negated w r else r

-- the one quotient that leaves the width: the least number by -1
abbrev pub overflows : ℕ → ℕ → ℕ → Bool
overflows w a b = if nat_eq a (2 ^ (w - 1)) then nat_eq b (2 ^ w - 1) else false

-- add sub mul div_s div_u rem_s rem_u and or xor shl shr_s shr_u rotl rotr
abbrev pub twos : List (ℕ → ℕ → ℕ → Outcome)
twos =
    (λ w a b. Gives ((a + b) % 2 ^ w))
    ∷ (λ w a b. Gives ((a + (2 ^ w - b)) % 2 ^ w))
    ∷ (λ w a b. Gives ((a * b) % 2 ^ w))
    ∷ (λ w a b. unless_zero b (if overflows w a b then Breaks IntegerOverflow else Gives (quotient_signed w a b)))
    ∷ (λ w a b. unless_zero b (Gives (a / b)))
    ∷ (λ w a b. unless_zero b (Gives (remainder_signed w a b)))
    ∷ (λ w a b. unless_zero b (Gives (a % b)))
    ∷ (λ w a b. Gives (bit_and a b))
    ∷ (λ w a b. Gives (bit_or a b))
    ∷ (λ w a b. Gives (bit_xor a b))
    ∷ (λ w a b. Gives ((a * 2 ^ (b % w)) % 2 ^ w))
    ∷ (λ w a b. Gives (if is_negative w a then (2 ^ w - 1) - (2 ^ w - 1 - a) / 2 ^ (b % w) else a / 2 ^ (b % w)))
    ∷ (λ w a b. Gives (a / 2 ^ (b % w)))
    ∷ (λ w a b. Gives ((a * 2 ^ (b % w)) % 2 ^ w + a / 2 ^ (w - b % w)))
    ∷ (λ w a b. Gives (a / 2 ^ (b % w) + (a * 2 ^ (w - b % w)) % 2 ^ w))
    ∷ []

abbrev pub two_of : ℕ → ℕ → ℕ → ℕ → Outcome
two_of k = slice_index_or twos k (λ w a b. Gives 0)

-- i32.wrap_i64, i64.extend_i32_s and _u, i32.extend8_s and 16_s, i64.extend8_s, 16_s and 32_s
abbrev pub conversions : List (ℕ → ℕ)
conversions =
    (λ a. a % 2 ^ 32) ∷ (λ a. extended 32 64 a) ∷ (λ a. a)
    ∷ (λ a. extended 8 32 a) ∷ (λ a. extended 16 32 a)
    ∷ (λ a. extended 8 64 a) ∷ (λ a. extended 16 64 a) ∷ (λ a. extended 32 64 a)
    ∷ []

abbrev pub converted : ℕ → ℕ → ℕ
converted k = slice_index_or conversions k (λ a. 0)

-- ---- opcodes

abbrev pub from_to : ℕ → ℕ → ℕ → Bool
from_to low high op = nat_le low op && nat_le op high

-- What an opcode computes (Core 5.4.7). All that has to do with floats is carried.
unfoldable pub class_of : ℕ → Class
class_of op =
    if op == 0x45 then Tests types.I32
    else if from_to 0x46 0x4F op then Compares types.I32 (op - 0x46)
    else if op == 0x50 then Tests types.I64
    else if from_to 0x51 0x5A op then Compares types.I64 (op - 0x51)
    else if from_to 0x5B 0x66 op then Carries
    else if from_to 0x67 0x69 op then Ones types.I32 (op - 0x67)
    else if from_to 0x6A 0x78 op then Twos types.I32 (op - 0x6A)
    else if from_to 0x79 0x7B op then Ones types.I64 (op - 0x79)
    else if from_to 0x7C 0x8A op then Twos types.I64 (op - 0x7C)
    else if from_to 0x8B 0xA6 op then Carries
    else if op == 0xA7 then Converts types.I64 types.I32 0
    else if from_to 0xA8 0xAB op then Carries
    else if op == 0xAC then Converts types.I32 types.I64 1
    else if op == 0xAD then Converts types.I32 types.I64 2
    else if from_to 0xAE 0xBF op then Carries
    else if from_to 0xC0 0xC1 op then Converts types.I32 types.I32 (op - 0xC0 + 3)
    else if from_to 0xC2 0xC4 op then Converts types.I64 types.I64 (op - 0xC0 + 3)
    else Unknown

-- ---- on values, the last one first

-- what becomes of the values: these are left, a trap, a carried instruction, or no rule
pub data Values : Type 0 where
  Left : List Value → Values
  Fails : TrapKind → Values
  Carried : Values
  NoRule : Values

abbrev pub on_one : ValType → (ℕ → ℕ) → Option ℕ → List Value → Values
on_one gives f None vs = NoRule
on_one gives f (Some a) vs = Left (value_of gives (f a) ∷ vs)

abbrev pub settled : ValType → Outcome → List Value → Values
settled gives (Gives n) vs = Left (value_of gives n ∷ vs)
settled gives (Breaks k) vs = Fails k

abbrev pub on_two : ValType → (ℕ → ℕ → Outcome) → Option ℕ → Option ℕ → List Value → Values
on_two gives f (Some a) (Some b) vs = settled gives (f a b) vs
on_two gives f _ _ vs = NoRule

abbrev pub one : ValType → ValType → (ℕ → ℕ) → List Value → Values
one takes gives f (x ∷ vs) = on_one gives f (number_in takes x) vs
one takes gives f [] = NoRule

abbrev pub two : ValType → ValType → (ℕ → ℕ → Outcome) → List Value → Values
two takes gives f (y ∷ x ∷ vs) = on_two gives f (number_in takes x) (number_in takes y) vs
two takes gives f _ = NoRule

abbrev pub by_class : Class → List Value → Values
by_class (Tests t) vs = one t types.I32 (λ a. flag (nat_eq a 0)) vs
by_class (Compares t k) vs = two t types.I32 (λ a b. Gives (flag (compared k (bits t) a b))) vs
by_class (Ones t k) vs = one t t (one_of k (bits t)) vs
by_class (Twos t k) vs = two t t (two_of k (bits t)) vs
by_class (Converts t u k) vs = one t u (converted k) vs
by_class Carries vs = Carried
by_class Unknown vs = NoRule

-- what an opcode without immediates computes
unfoldable pub computed : ℕ → List Value → Values
computed op vs = by_class (class_of op) vs
