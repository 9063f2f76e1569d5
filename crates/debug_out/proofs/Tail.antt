-- Joined sections are measured before they are written.
use Rattle.std.proofs.Common.{ℕ, ◌≡◌, ◌∙◌, ◌+◌, ◌-◌, ◌^◌, ◌<◌, ◌≤◌, nat_lt, true, false, List, length, flat_map, Result, Ok, Err, refl, ap, sym, arith}
use Rattle.std.specs.List.{AllByRecursion}
use Rattle.std.proofs.lemmas.Bool.Decides.{nat_tests}
use Rattle.wl_base.specs.Choice.{unless}
use Rattle.wl_base.specs.declared.fault.Fault.{Fault}
use Rattle.wl_base.specs.declared.fault.Fault.TheVariants.{DebugTooLong}
use Rattle.debug_rules.specs.Faults.{Debug}
use Rattle.debug_rules.specs.Joined.{Places, names_of, section_of, tail_of, length_fault}
use Rattle.debug_out.specs.Grouped.{sections_len, IsGrouped}
use Rattle.std.specs.Prelude.{IfOk}
use Rattle.debug_out.specs.declared.error.DebugError.{DebugError}
use Rattle.debug_out.specs.declared.groups.Groups.{Groups}
use Rattle.debug_out.specs.declared.joining.DebugTail.{DebugTail}
use Rattle.debug_out.specs.Tails.{IsWhole}
use Rattle.debug_out.specs.Windows.{Stands}
use Rattle.debug_out.proofs.Long.{tail_long}

long_fault : (n : ℕ) (tail : List ℕ) → nat_lt (2 ^ 31 - 1) n ≡ true → unless (length_fault n) tail ≡ Err (DebugTooLong n)
long_fault n tail is = rw (is) refl

no_fault : (n : ℕ) (tail : List ℕ) → nat_lt (2 ^ 31 - 1) n ≡ false → (let said : Result (List ℕ) Fault = unless (length_fault n) tail in said ≡ Ok tail)
no_fault n tail is = rw (is) refl

needed_is : (ds : List Debug) (p : Places) (names : List (List ℕ)) (len before needed : ℕ) → names ≡ names_of ds → AllByRecursion Stands ds → len ≡ sections_len ds names → needed ≡ before + len
    → before + length (tail_of ds p) ≡ needed
needed_is ds p names len before needed is stand measured sum = omega (arith, tail_long ds p stand, ap (sections_len ds) is, measured, sum)

pub too_long : (ds : List Debug) (p : Places) (names : List (List ℕ)) (len before needed : ℕ) → names ≡ names_of ds → AllByRecursion Stands ds → len ≡ sections_len ds names → needed ≡ before + len
    → 2147483647 < needed → unless (length_fault (before + length (tail_of ds p))) (tail_of ds p) ≡ Err (DebugTooLong needed)
too_long ds p names len before needed is stand measured sum long =
    ap (λ n. unless (length_fault n) (tail_of ds p)) (needed_is ds p names len before needed is stand measured sum) ∙ long_fault needed (tail_of ds p) (grind (arith, nat_tests))

tail_is : (ds : List Debug) (p : Places) (names : List (List ℕ)) (tail : List ℕ) → names ≡ names_of ds → tail ≡ flat_map (section_of ds p) names → tail_of ds p ≡ tail
unfolding tail_of
tail_is ds p names tail is put = sym (put ∙ ap (flat_map (section_of ds p)) is)

pub it_fits : (ds : List Debug) (p : Places) (names : List (List ℕ)) (len before needed : ℕ) (tail : List ℕ) → names ≡ names_of ds → AllByRecursion Stands ds → len ≡ sections_len ds names → needed ≡ before + len
    → needed ≤ 2147483647 → tail ≡ flat_map (section_of ds p) names → (let said : Result (List ℕ) Fault = unless (length_fault (before + length (tail_of ds p))) (tail_of ds p) in said ≡ Ok tail)
it_fits ds p names len before needed tail is stand measured sum short put =
    ap (λ n. unless (length_fault n) (tail_of ds p)) (needed_is ds p names len before needed is stand measured sum)
    ∙ (no_fault needed (tail_of ds p) (grind (arith, nat_tests)) ∙ ap Ok (tail_is ds p names tail is put))

pub whole_of : (names : List (List ℕ)) (g : Groups) (ds : List Debug) (r : Result DebugTail DebugError) → IfOk r (λ t. (ds : List Debug) → IsGrouped names g ds → AllByRecursion Stands ds → IsWhole t)
    → IsGrouped names g ds → AllByRecursion Stands ds → IfOk r IsWhole
whole_of names g ds (Ok t) told has stand = told ds has stand
whole_of names g ds (Err e) told has stand = tt
