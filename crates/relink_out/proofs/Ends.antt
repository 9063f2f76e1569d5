-- What a partial link answers at each of its ends.
use Rattle.std.proofs.Common.{◌≡◌, ℕ, ◌<◌, ◌≤◌, ◌^◌, Bool, true, false, nat_lt, List, length, Option, Some, None, Result, Ok, Err, refl, sym, ap, subst, ◌∙◌, arith}
use Rattle.std.proofs.lemmas.Bool.Decides.{nat_tests}
use Rattle.partial_items.specs.link_program.wl_base.Choice.{given, unless, ◌>>=◌}
use Rattle.partial_items.specs.link_program.wl_base.declared.fault.Fault.{Fault}
use Rattle.partial_items.specs.link_program.wl_base.declared.fault.Fault.TheVariants.{PartialTooLong}
use Rattle.partial_items.specs.link_program.link_rules.Program.{Program}
use Rattle.partial_items.specs.partial_rules.Relocatable.{relocatable_bytes}
use Rattle.partial_items.specs.partial_rules.Partial.{relocatable, open_local}
use Rattle.relink_out.specs.Made.{bytes_or, made_of}

judged : (bytes : List ℕ) (b : Bool) → nat_lt (2 ^ 30) (length bytes) ≡ b → bytes_or bytes ≡ unless (given b (PartialTooLong (length bytes))) bytes
judged bytes b is = ap (λ c. unless (given c (PartialTooLong (length bytes))) bytes) is

behind : (p : Program) → None ≡ open_local p → made_of p ≡ bytes_or (relocatable_bytes (relocatable p))
unfolding made_of
behind p none = sym (ap (λ o. unless o p >>= λ p. bytes_or (relocatable_bytes (relocatable p))) none)

-- A kept part refers to what isn't kept.
pub is_refused : (p : Program) (fault : Fault) → Some fault ≡ open_local p → made_of p ≡ Err fault
unfolding made_of
is_refused p fault is = sym (ap (λ o. unless o p >>= λ p. bytes_or (relocatable_bytes (relocatable p))) is)

pub is_bytes : (p : Program) (written : List ℕ) → None ≡ open_local p → written ≡ relocatable_bytes (relocatable p) → length written ≤ 2 ^ 30 → made_of p ≡ Ok written
is_bytes p written none same within =
    let bytes : List ℕ = relocatable_bytes (relocatable p) in
    let few : length bytes ≤ 2 ^ 30 = subst (λ (xs : List ℕ). length xs ≤ 2 ^ 30) same within in
    behind p none ∙ (judged bytes false (grind (arith, nat_tests)) ∙ ap (λ (xs : List ℕ). Ok xs) (sym same))

pub is_long : (p : Program) (needed : ℕ) → None ≡ open_local p → needed ≡ length (relocatable_bytes (relocatable p)) → 2 ^ 30 < needed → made_of p ≡ Err (PartialTooLong needed)
is_long p needed none same past =
    let bytes : List ℕ = relocatable_bytes (relocatable p) in
    let many : 2 ^ 30 < length bytes = subst (λ n. 2 ^ 30 < n) same past in
    behind p none ∙ (judged bytes true (grind (arith, nat_tests)) ∙ ap (λ n. Err (PartialTooLong n)) (sym same))
