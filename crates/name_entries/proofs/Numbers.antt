-- The number of a name among names that differ.
use Rattle.std.proofs.Common.{◌≡◌, ℕ, Bool, true, false, cond, List, [], length, get_or, slice_get, Option, Some, None, refl, sym, ap, subst, ◌∙◌, arith, nat_lt}
use Rattle.std.specs.Prelude.{bytes_eq}
use Rattle.std.specs.Cmp.Lexicographic.{nat_list_eq_equiv}
use Rattle.std.specs.List.{IsDistinct}
use Rattle.std.proofs.lemmas.Bool.{eqb-true, eq-eqb}
use Rattle.std.proofs.lemmas.Bool.Decides.{nat_tests}
use Rattle.std.proofs.lemmas.List.Quantifiers.{position-Some}
use Rattle.std.proofs.lemmas.List.Sums.{position_or_len_is}
use Rattle.std.proofs.lemmas.Map.Keys.{apart_from_distinct}
use Rattle.std.proofs.lemmas.Option.{slice_get_within, slice_get-get_or, get_or_from_slice_get}
use Rattle.std.proofs.lemmas.Slice.Eq.{bytes_eq-Decides}
use Rattle.name_rules.specs.object_file.wl_base.Names.{number_of}
use Rattle.name_entries.specs.View.{is_number}

-- the name of a number
pub name_at : (names : List (List ℕ)) (name : List ℕ) (n : ℕ) → number_of names name ≡ Some n → slice_get names n ≡ Some name
name_at names name n numbered =
    let at = position-Some (bytes_eq name) names n [] numbered in
    slice_get-get_or names n [] at.0 ∙ ap Some (sym ((bytes_eq-Decides name (get_or names n [])).0 at.1))

-- the number of a name that stands at a place
pub own_number : (names : List (List ℕ)) (name : List ℕ) (n : ℕ) → IsDistinct bytes_eq names → slice_get names n ≡ Some name → number_of names name ≡ Some n
own_number names name n distinct at =
    let within = slice_get_within names n name at in
    let here : get_or names n name ≡ name = get_or_from_slice_get names n name name at in
    let place = position_or_len_is (bytes_eq name) names n name (omega arith)
    (λ k below. nat_list_eq_equiv.symm name (get_or names k name) ∙ (subst (λ y. bytes_eq (get_or names k name) y ≡ false) here (apart_from_distinct bytes_eq names k n name distinct below within)))
    (λ h. (bytes_eq-Decides name (get_or names n name)).1 (sym here)) in
    let below : nat_lt n (length names) ≡ true = grind (arith, nat_tests) in
    ap (λ k. cond (nat_lt k (length names)) (Some k) None) place ∙ ap (λ b. cond b (Some n) None) below

-- ---- whether a name has a number, and whether it is the name of that number, is one question

same_name : (names : List (List ℕ)) (other name : List ℕ) (n : ℕ) → IsDistinct bytes_eq names → slice_get names n ≡ Some name → other ≡ name → is_number n (number_of names other) ≡ true
same_name names other name n distinct at same = ap (λ y. is_number n (number_of names y)) same ∙ ap (is_number n) (own_number names name n distinct at) ∙ eq-eqb n n refl

other_name : (names : List (List ℕ)) (other name : List ℕ) (n : ℕ) (found : Option ℕ) (same : Bool) → slice_get names n ≡ Some name → bytes_eq other name ≡ false → number_of names other ≡ found
    → is_number n found ≡ same → same ≡ false
other_name names other name n found false at differs is same = refl
other_name names other name n None true at differs is same = absurd cc
other_name names other name n (Some k) true at differs is same =
    let held = name_at names other k is in
    let k_is : k ≡ n = eqb-true k n same in
    let names_same : Some other ≡ Some name = sym held ∙ ap (slice_get names) k_is ∙ at in
    let other_is : other ≡ name = cc in
    let equal : bytes_eq other name ≡ true = (bytes_eq-Decides other name).1 other_is in
    absurd cc

pub number_is : (names : List (List ℕ)) (other name : List ℕ) (n : ℕ) (same : Bool) → IsDistinct bytes_eq names → slice_get names n ≡ Some name → bytes_eq other name ≡ same
    → is_number n (number_of names other) ≡ same
number_is names other name n true distinct at same = same_name names other name n distinct at ((bytes_eq-Decides other name).0 same)
number_is names other name n false distinct at same = other_name names other name n (number_of names other) (is_number n (number_of names other)) at same refl refl

pub by_name : (names : List (List ℕ)) (other name : List ℕ) (n : ℕ) → IsDistinct bytes_eq names → slice_get names n ≡ Some name → is_number n (number_of names other) ≡ bytes_eq name other
by_name names other name n distinct at = number_is names other name n (bytes_eq other name) distinct at refl ∙ nat_list_eq_equiv.symm other name
