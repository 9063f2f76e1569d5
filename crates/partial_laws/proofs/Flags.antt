-- The flags of an open symbol: it is UNDEFINED, and WEAK and EXPLICIT_NAME as they were asked.
use Rattle.std.proofs.Common.{◌≡◌, ℕ, ◌+◌, ◌==◌, Bool, true, false, not, bit_and, refl, ap, ◌∙◌, arith}
use Rattle.std.specs.Prelude.{if◌then◌else◌, bit_or}
use Rattle.std.specs.Int.Bits.{or_add_and, and_zero_r}
use Rattle.std.proofs.lemmas.Nat.{and_or_self, and_or_apart, and_assoc}
use Rattle.name_rules.specs.object_file.linking_section.Flags.{has_bit}

-- Numbers without a common bit are added bit by bit.
sum_or : (a b : ℕ) → bit_and a b ≡ 0 → a + b ≡ bit_or a b
sum_or a b h = omega (arith, or_add_and a b, h)

abbrev where_set : ℕ → Bool → ℕ
where_set bit test = if test then bit else 0

add_own : (g n : ℕ) (b : Bool) → bit_and g n ≡ 0 → bit_and (g + where_set n b) n ≡ where_set n b
add_own g n true h = ap (λ x. bit_and x n) (sum_or g n h) ∙ and_or_self n g
add_own g n false h = let same : g + 0 ≡ g = omega arith in ap (λ x. bit_and x n) same ∙ h

add_other : (g n m : ℕ) (b : Bool) → bit_and g n ≡ 0 → bit_and n m ≡ 0 → bit_and (g + where_set n b) m ≡ bit_and g m
add_other g n m true h apart = ap (λ x. bit_and x m) (sum_or g n h) ∙ and_or_apart m g n apart
add_other g n m false h apart = let same : g + 0 ≡ g = omega arith in ap (λ x. bit_and x m) same

-- without bits 0x01, 0x10 and 0x40
cleared : (flags n : ℕ) → bit_and 0xAE n ≡ 0 → bit_and (bit_and flags 0xAE) n ≡ 0
cleared flags n h = and_assoc n flags 0xAE ∙ (ap (bit_and flags) h ∙ and_zero_r flags)

abbrev open_flags : ℕ → Bool → Bool → ℕ
open_flags flags weak explicit = bit_and flags 0xAE + 0x10 + where_set 0x01 weak + where_set 0x40 explicit

no_explicit : (flags : ℕ) (weak : Bool) → bit_and (bit_and flags 0xAE + 0x10 + where_set 0x01 weak) 0x40 ≡ 0
no_explicit flags weak =
    add_other (bit_and flags 0xAE + 0x10) 0x01 0x40 weak (add_other (bit_and flags 0xAE) 0x10 0x01 true (cleared flags 0x10 refl) refl ∙ cleared flags 0x01 refl) refl
    ∙ (add_other (bit_and flags 0xAE) 0x10 0x40 true (cleared flags 0x10 refl) refl ∙ cleared flags 0x40 refl)

no_weak : (flags : ℕ) → bit_and (bit_and flags 0xAE + 0x10) 0x01 ≡ 0
no_weak flags = add_other (bit_and flags 0xAE) 0x10 0x01 true (cleared flags 0x10 refl) refl ∙ cleared flags 0x01 refl

pub open_undefined : (flags : ℕ) (weak explicit : Bool) → has_bit 0x10 (open_flags flags weak explicit) ≡ true
open_undefined flags weak explicit =
    ap (λ n. not (n == 0))
    (add_other (bit_and flags 0xAE + 0x10 + where_set 0x01 weak) 0x40 0x10 explicit (no_explicit flags weak) refl
    ∙ (add_other (bit_and flags 0xAE + 0x10) 0x01 0x10 weak (no_weak flags) refl ∙ add_own (bit_and flags 0xAE) 0x10 true (cleared flags 0x10 refl)))

bit_told : (n : ℕ) (b : Bool) → (n == 0) ≡ false → not (where_set n b == 0) ≡ b
bit_told n true some = ap not some
bit_told n false some = refl

pub open_weak : (flags : ℕ) (weak explicit : Bool) → has_bit 0x01 (open_flags flags weak explicit) ≡ weak
open_weak flags weak explicit =
    ap (λ n. not (n == 0))
    (add_other (bit_and flags 0xAE + 0x10 + where_set 0x01 weak) 0x40 0x01 explicit (no_explicit flags weak) refl ∙ add_own (bit_and flags 0xAE + 0x10) 0x01 weak (no_weak flags))
    ∙ bit_told 0x01 weak refl

pub open_explicit : (flags : ℕ) (weak explicit : Bool) → has_bit 0x40 (open_flags flags weak explicit) ≡ explicit
open_explicit flags weak explicit =
    ap (λ n. not (n == 0)) (add_own (bit_and flags 0xAE + 0x10 + where_set 0x01 weak) 0x40 explicit (no_explicit flags weak)) ∙ bit_told 0x40 explicit refl
