-- Flags that were set one after another.
use Rattle.std.proofs.Common.{◌≡◌, ℕ, zero, suc, ◌+◌, ◌<◌, ◌==◌, Bool, true, false, ◌||◌, List, [], ◌∷◌, map, fold, length, get_or, set, replicate, Option, Some, None, refl, sym, ap, ◌∙◌, arith, length-set, get_or-set_same, get_or-set_other}
use Rattle.std.specs.List.{list_any}
use Rattle.std.proofs.lemmas.Bool.{ne_eqb}
use Rattle.std.proofs.lemmas.Bool.Decides.{nat_tests}
use Rattle.std.proofs.lemmas.List.{length-replicate}
use Rattle.link_keys.specs.Noted.{flagged, is_at}

pub flagged_length : (flags : List Bool) (o : Option ℕ) → length (flagged flags o) ≡ length flags
flagged_length flags None = refl
flagged_length flags (Some n) = length-set flags n true

or_false : (b : Bool) → b ≡ (b || false)
or_false true = refl
or_false false = refl

or_true : (b : Bool) → true ≡ (b || true)
or_true true = refl
or_true false = refl

or_assoc : (a b c : Bool) → ((a || b) || c) ≡ (a || (b || c))
or_assoc true b c = refl
or_assoc false b c = refl

flagged_at : (flags : List Bool) (o : Option ℕ) (i : ℕ) → i < length flags → get_or (flagged flags o) i false ≡ (get_or flags i false || is_at i o)
flagged_at flags None i below = or_false (get_or flags i false)
flagged_at flags (Some n) i below = by_place (n == i) refl
  where
    by_place : (r : Bool) → (n == i) ≡ r → get_or (set flags n true) i false ≡ (get_or flags i false || r)
    by_place true e =
        let same : n ≡ i = grind (arith, nat_tests) in
        rw same (get_or-set_same flags i true false below ∙ or_true (get_or flags i false))
    by_place false e =
        let apart : i ≡ n → ⊥ = λ same. let back : n ≡ i = sym same in grind (arith, nat_tests) in
        get_or-set_other flags n i true false apart ∙ or_false (get_or flags i false)

flags_at : (flags : List Bool) (os : List (Option ℕ)) (i : ℕ) → i < length flags → get_or (fold flagged flags os) i false ≡ (get_or flags i false || list_any (is_at i) os)
flags_at flags [] i below = or_false (get_or flags i false)
flags_at flags (o ∷ os) i below =
    let inside : i < length (flagged flags o) = rw (flagged_length flags o) below in
    flags_at (flagged flags o) os i inside
    ∙ ap (λ b. b || list_any (is_at i) os) (flagged_at flags o i below)
    ∙ or_assoc (get_or flags i false) (is_at i o) (list_any (is_at i) os)

blank_at : (n i : ℕ) → get_or (replicate n false) i false ≡ false
blank_at zero i = refl
blank_at (suc n) zero = refl
blank_at (suc n) (suc i) = blank_at n i

-- A flag of many that were not set is set where one sets it.
pub flags_set : (n : ℕ) (os : List (Option ℕ)) (i : ℕ) → i < n → get_or (fold flagged (replicate n false) os) i false ≡ list_any (is_at i) os
flags_set n os i below =
    let inside : i < length (replicate n false) = rw length-replicate below in
    flags_at (replicate n false) os i inside ∙ rw (blank_at n i) refl
