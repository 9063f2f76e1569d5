-- What the words of a script say: names and values.
use Rattle.std.specs.Prelude.{ℕ, ◌+◌, ◌-◌, ◌*◌, ◌^◌, ◌==◌, ◌&&◌, not, Bool, true, false, List, [], ◌∷◌, ◌++◌, length, take, drop, codes, nat_le, nat_lt, if◌then◌else◌, Option, Some, None, option_map, option_and_then}
use Rattle.std.specs.Str.{bytes_eq}
use Rattle.run_rules.specs.declared.value.Value.{Value}
use Rattle.run_rules.specs.declared.value.Value.TheVariants.{I32, I64, F32, F64}
use Rattle.run_script.specs.Numbers.{number_to}
use Rattle.run_script.specs.declared.names.Within.{Within}
use Rattle.run_script.specs.declared.names.Within.TheVariants.{Between, Slash, Digits, Digit}

-- ---- hexadecimal digits, of which the letters are upper

abbrev pub is_between : ℕ → ℕ → ℕ → Bool
is_between least most n = nat_le least n && nat_le n most

abbrev pub hex_of : ℕ → Option ℕ
hex_of b = if is_between 48 57 b then Some (b - 48) else if is_between 65 70 b then Some (b - 55) else None

-- ---- names, byte by byte as they are printed

-- from `!` to `~`, but the backslash (92)
abbrev pub is_shown : ℕ → Bool
is_shown b = is_between 33 126 b && not (b == 92)

-- What a byte adds to a name, and where it leads (120 is `x`).
pub record Step : Type 0 where
  pub byte : Option ℕ
  pub next : Within

abbrev pub goes : Option ℕ → Within → Option Step
goes byte next = Some (record { byte = byte; next = next })

abbrev pub second_digit : ℕ → Option Step
second_digit n = if is_shown n then None else goes (Some n) Between

abbrev pub name_step : Within → ℕ → Option Step
name_step Between b = if b == 92 then goes None Slash else if is_shown b then goes (Some b) Between else None
name_step Slash b = if b == 120 then goes None Digits else None
name_step Digits b = option_and_then (λ h. goes None (Digit h)) (hex_of b)
name_step (Digit h) b = option_and_then (λ l. second_digit (16 * h + l)) (hex_of b)

-- a digit is below 16
abbrev pub small_within : Within → Bool
small_within (Digit h) = nat_lt h 16
small_within _ = true

abbrev pub is_whole : Within → Bool
is_whole Between = true
is_whole _ = false

abbrev pub behind : List ℕ → Option ℕ → List ℕ
behind name None = name
behind name (Some b) = name ++ b ∷ []

abbrev pub name_onto : List ℕ → Within → List ℕ → Option (List ℕ)
name_onto name at [] = if is_whole at then Some name else None
name_onto name at (b ∷ bs) = option_and_then (λ s. name_onto (behind name s.byte) s.next bs) (name_step at b)

-- The name that a word is printed of; the empty one is `\e`.
abbrev pub name_in : List ℕ → Option (List ℕ)
name_in word =
    if bytes_eq word (92 ∷ 101 ∷ []) then Some []
    else if length word == 0 then None
    else name_onto [] Between word

-- ---- values: a type, a colon and the pattern of bits as a number

abbrev pub value_in : List ℕ → Option Value
value_in word =
    if bytes_eq (take 4 word) (codes "i32:") then option_map I32 (number_to (2 ^ 32 - 1) (drop 4 word))
    else if bytes_eq (take 4 word) (codes "i64:") then option_map I64 (number_to (2 ^ 64 - 1) (drop 4 word))
    else if bytes_eq (take 4 word) (codes "f32:") then option_map F32 (number_to (2 ^ 32 - 1) (drop 4 word))
    else if bytes_eq (take 4 word) (codes "f64:") then option_map F64 (number_to (2 ^ 64 - 1) (drop 4 word))
    else None
