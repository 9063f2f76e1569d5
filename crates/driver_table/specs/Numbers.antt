-- Numbers as drivers write them: decimal digits, where zeros may lead.
use Rattle.std.specs.Prelude.{◌≡◌, ℕ, ◌+◌, ◌-◌, ◌*◌, ◌^◌, min, Bool, true, false, not, ◌&&◌, ◌==◌, List, length, nat_le, fold, codes, refl}
use Rattle.std.specs.List.{list_all}

abbrev pub is_digit : ℕ → Bool
is_digit b = nat_le 48 b && nat_le b 57

abbrev pub is_decimal : List ℕ → Bool
is_decimal text = not (length text == 0) && list_all is_digit text

-- more than any option takes
abbrev pub too_much : ℕ
too_much = 2 ^ 32 + 1

abbrev pub with_digit : ℕ → ℕ → ℕ
with_digit n b = min (n * 10 + (b - 48)) too_much

-- the number that digits spell, or too much
abbrev pub amount : List ℕ → ℕ
amount text = fold with_digit 0 text

pub zeros_may_lead : amount (codes "0002048") ≡ 2048
zeros_may_lead = refl

pub a_long_number_is_too_much : amount (codes "99999999999999999999") ≡ too_much
a_long_number_is_too_much = refl

pub no_hexadecimal : is_decimal (codes "0x400") ≡ false
no_hexadecimal = refl

pub no_digit_is_no_number : is_decimal (codes "") ≡ false
no_digit_is_no_number = refl
