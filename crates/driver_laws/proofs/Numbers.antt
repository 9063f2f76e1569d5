-- Numbers as the front spells them are those that the linker reads.
use Rattle.std.proofs.Common.{◌≡◌, ◌⊎◌, inl, inr, ℕ, ◌+◌, ◌-◌, ◌*◌, ◌/◌, ◌%◌, ◌^◌, ◌<◌, ◌≤◌, Bool, true, false, ◌&&◌, cond, List, [], ◌∷◌, ◌++◌, length, get_or, nat_lt, nat_le, nat_eq, Option, Some, None, refl, sym, ap, subst, ◌∙◌, arith}
use Rattle.std.specs.Prelude.{decimal, IsSome}
use Rattle.std.proofs.lemmas.Fmt.{decimal_by_steps, decimal_digit, first_decimal}
use Rattle.std.proofs.lemmas.Bool.Decides.{nat_tests}
use Rattle.link_words.specs.declared.range.Range.{Range}
use Rattle.driver_laws.proofs.Pieces.{Every}
use Rattle.link_words.specs.Numbers.{is_between, digit_of, digits_of, number_of, is_hexadecimal, is_in, kept, number_in}

cond_true : {A : Type 0} (b : Bool) → b ≡ true → (x y : A) → cond b x y ≡ x
cond_true b is x y = ap (λ t. cond t x y) is

cond_false : {A : Type 0} (b : Bool) → b ≡ false → (x y : A) → cond b x y ≡ y
cond_false b is x y = ap (λ t. cond t x y) is

and_false : (b : Bool) → (b && false) ≡ false
and_false true = refl
and_false false = refl

digit_is : (r : ℕ) → r < 10 → digit_of (48 + r) ≡ r
digit_is r h =
    let least : nat_le 48 (48 + r) ≡ true = grind (arith, nat_tests) in
    let most : nat_le (48 + r) 57 ≡ true = grind (arith, nat_tests) in
    let within : is_between 48 57 (48 + r) ≡ true = (λ i. least i && most i) in
    cond_true (is_between 48 57 (48 + r)) within (48 + r - 48) _ ∙ omega arith

-- one digit more
digits_more : (ds : List ℕ) (value whole r : ℕ) → r < 10 → digits_of 10 value ds ≡ Some whole → digits_of 10 value (ds ++ (48 + r) ∷ []) ≡ Some (whole * 10 + r)
digits_more [] value whole r h e =
    let is : value ≡ whole = cc in
    let small : nat_lt (digit_of (48 + r)) 10 ≡ true = let d = digit_is r h in grind (arith, nat_tests) in
    cond_true (nat_lt (digit_of (48 + r)) 10) small _ _ ∙ (λ i. Some (is i * 10 + digit_is r h i))
digits_more (b ∷ ds) value whole r h e = by (λ e. digits_more ds (value * 10 + digit_of b) whole r h e) (nat_lt (digit_of b) 10) e
  where
    by : (digits_of 10 (value * 10 + digit_of b) ds ≡ Some whole → digits_of 10 (value * 10 + digit_of b) (ds ++ (48 + r) ∷ []) ≡ Some (whole * 10 + r)) → (t : Bool) → cond t (digits_of 10 (value * 10 + digit_of b) ds) None ≡ Some whole → cond t (digits_of 10 (value * 10 + digit_of b) (ds ++ (48 + r) ∷ [])) None ≡ Some (whole * 10 + r)
    by more true e = more e
    by more false e = absurd cc

abbrev IsDigit : ℕ → Type 0
IsDigit b = b ≤ 57

all_more : (ds : List ℕ) (d : ℕ) → Every IsDigit ds → d ≤ 57 → Every IsDigit (ds ++ d ∷ [])
all_more [] d all h = (h, tt)
all_more (b ∷ ds) d all h = (all.0, all_more ds d all.1 h)

record Spelled (n : ℕ) (ds : List ℕ) : Type 0 where
  value : digits_of 10 0 ds ≡ Some n
  digits : Every IsDigit ds

spelled_digit : (n : ℕ) → n < 10 → Spelled n ((48 + n) ∷ [])
spelled_digit n h = record { value = digits_more [] 0 0 n h refl ∙ ap (λ k. Some k) (omega arith); digits = (omega arith, tt) }

spelled_step : (n : ℕ) (ds : List ℕ) → 10 ≤ n → Spelled (n / 10) ds → Spelled n (ds ++ (48 + n % 10) ∷ [])
spelled_step n ds h s = record {
  value = digits_more ds 0 (n / 10) (n % 10) (omega arith) s.value ∙ ap (λ k. Some k) (omega arith);
  digits = all_more ds (48 + n % 10) s.digits (omega arith);
}

spelled : (n : ℕ) → n < 2 ^ 64 → Spelled n (decimal n)
spelled n small = decimal_by_steps (λ m ds. Spelled m ds) spelled_digit spelled_step n small

-- digits without a needless zero
number_is : (n : ℕ) (ds : List ℕ) → Spelled n ds → 0 < length ds → (1 < length ds → 48 < get_or ds 0 0) → number_of ds ≡ Some n
number_is n [] s some lead = absurd (omega (arith, some))
number_is n (b ∷ []) s some lead = cond_false (is_hexadecimal (b ∷ [])) (and_false (nat_eq b 48)) _ _ ∙ s.value
number_is n (b ∷ c ∷ ds) s some lead =
    let first : 48 < b = lead (omega arith) in
    let second : c ≤ 57 = s.digits.1.0 in
    let long : nat_eq (length (b ∷ c ∷ ds)) 0 ≡ false = grind (arith, nat_tests) in
    let other : nat_eq c 120 ≡ false = grind (arith, nat_tests) in
    let more : nat_eq b 48 ≡ false = grind (arith, nat_tests) in
    let plain : is_hexadecimal (b ∷ c ∷ ds) ≡ false = ap (λ t. nat_eq b 48 && (t && true)) other ∙ and_false (nat_eq b 48) in
    cond_false (is_hexadecimal (b ∷ c ∷ ds)) plain _ _
    ∙ cond_false (nat_lt 1 (length (b ∷ c ∷ ds)) && nat_eq b 48) (ap (λ t. nat_lt 1 (length (b ∷ c ∷ ds)) && t) more ∙ and_false (nat_lt 1 (length (b ∷ c ∷ ds)))) _ _
    ∙ cond_false (nat_eq (length (b ∷ c ∷ ds)) 0) long _ _
    ∙ s.value

number_by : (n : ℕ) → n < 2 ^ 64 → (n < 10) ⊎ (10 ≤ n) → number_of (decimal n) ≡ Some n
number_by n small (inl h) = subst (λ (ds : List ℕ). number_of ds ≡ Some n) (sym (decimal_digit n h)) (number_is n ((48 + n) ∷ []) (spelled_digit n h) (omega arith) (λ l. absurd (omega (arith, l))))
number_by n small (inr h) = let first = first_decimal n (omega arith) small in number_is n (decimal n) (spelled n small) (some (decimal n) first) (λ l. first)
  where
    some : (ds : List ℕ) → 48 < get_or ds 0 0 → 0 < length ds
    some [] h = absurd (omega (arith, h))
    some (b ∷ ds) h = omega arith

order : (n : ℕ) → (n < 10) ⊎ (10 ≤ n)
order n = by (nat_lt n 10) refl
  where
    by : (t : Bool) → nat_lt n 10 ≡ t → (n < 10) ⊎ (10 ≤ n)
    by true is = inl (grind (arith, nat_tests))
    by false is = inr (grind (arith, nat_tests))

-- The decimal spelling of a number of the range is one.
pub number_in_range : (range : Range) (n : ℕ) → n < 2 ^ 64 → is_in range n ≡ true → IsSome (number_in range (decimal n))
number_in_range range n small is =
    subst (λ (x : Option ℕ). IsSome x) (sym (ap (kept (is_in range)) (number_by n small (order n)) ∙ cond_true (is_in range n) is (Some n) None)) refl
