-- Places of codes, one code more.
use Rattle.std.proofs.Common.{◌≡◌, ℕ, ◌+◌, ◌<◌, ◌≤◌, Bool, true, false, List, [], ◌∷◌, ◌++◌, length, take, get_or, Option, Some, None, option_map, suc, refl, sym, ap, subst, ◌∙◌, arith}
use Rattle.std.specs.List.{list_any}
use Rattle.std.proofs.lemmas.Bool.Decides.{nat_tests}
use Rattle.std.proofs.lemmas.List.{take_more, length-take-le}
use Rattle.std.proofs.Math.Seq.{take-length}
use Rattle.std.proofs.lemmas.List.Folds.{list_any-append}
use Rattle.link_keys.specs.declared.codes.Code.{Code}
use Rattle.link_keys.specs.Codes.{same_code}
use Rattle.link_numbers.specs.Places.{place_of, noted_place}
use Rattle.link_keys.proofs.Positions.{position_stays, position_last, position_none, position_first, position_next}

code_equal : (x y : Code) → same_code x y ≡ true → x ≡ y
code_equal x y e = let a : x.kind ≡ y.kind = grind (arith, nat_tests) in let b : x.input ≡ y.input = grind (arith, nat_tests) in let d : x.index ≡ y.index = grind (arith, nat_tests) in
    λ i. record { kind = a i; input = b i; index = d i }

code_itself : (x : Code) → same_code x x ≡ true
code_itself x = grind (arith, nat_tests)

held_place : (codes : List Code) (q : Code) → list_any (same_code q) codes ≡ true → (n : ℕ) × (place_of codes q ≡ Some n)
held_place [] q is = absurd cc
held_place (x ∷ codes) q is = by_head (same_code q x) refl (held_place codes q)
  where
    by_head : (r : Bool) → same_code q x ≡ r → (list_any (same_code q) codes ≡ true → (n : ℕ) × (place_of codes q ≡ Some n)) → (n : ℕ) × (place_of (x ∷ codes) q ≡ Some n)
    by_head true e again = (0, position_first (same_code q) x codes e)
    by_head false e again = let rest : list_any (same_code q) codes ≡ true = cc in let p = again rest in (suc p.0, position_next (same_code q) x codes e ∙ ap (option_map suc) p.1)

unheld : (codes : List Code) (r : Code) → place_of codes r ≡ None → list_any (same_code r) codes ≡ false
unheld codes r none = by_held (list_any (same_code r) codes) refl
  where
    by_held : (b : Bool) → list_any (same_code r) codes ≡ b → b ≡ false
    by_held false is = refl
    by_held true is = absurd (let p = held_place codes r is in let e : None ≡ Some p.0 = sym none ∙ p.1 in cc)

apart_back : (x q : Code) → same_code x q ≡ false → same_code q x ≡ false
apart_back x q apart = by_back (same_code q x) refl
  where
    by_back : (b : Bool) → same_code q x ≡ b → b ≡ false
    by_back false e = refl
    by_back true e = absurd (let t : same_code x q ≡ true = subst (λ z. same_code x z ≡ true) (sym (code_equal q x e)) (code_itself x) in let f : true ≡ false = sym t ∙ apart in cc)

none_more : (codes : List Code) (x q : Code) → place_of codes q ≡ None → same_code x q ≡ false → place_of (codes ++ x ∷ []) q ≡ None
none_more codes x q none apart = position_none (same_code q) (codes ++ x ∷ []) (list_any-append (same_code q) codes (x ∷ []) ∙ rw (unheld codes q none, apart_back x q apart) refl)

one_place : (codes : List Code) (x q : Code) (a b : Option ℕ) → same_code x q ≡ true → place_of codes x ≡ a → place_of codes q ≡ b → a ≡ b
one_place codes x q a b is p s = sym p ∙ ap (place_of codes) (code_equal x q is) ∙ s

-- The place of q among codes and one more, by that among the codes.
by_places : (codes : List Code) (x q : Code) (a b : Option ℕ) (r : Bool) → place_of codes x ≡ a → place_of codes q ≡ b → same_code x q ≡ r → place_of (codes ++ x ∷ []) q ≡ noted_place a r (length codes) b
by_places codes x q (Some m) (Some n) r p s is = position_stays (same_code q) codes (x ∷ []) n s
by_places codes x q (Some m) None true p s is = absurd (let e : Some m ≡ None = one_place codes x q (Some m) None is p s in cc)
by_places codes x q (Some m) None false p s is = none_more codes x q s is
by_places codes x q None (Some n) true p s is = absurd (let e : None ≡ Some n = one_place codes x q None (Some n) is p s in cc)
by_places codes x q None (Some n) false p s is = position_stays (same_code q) codes (x ∷ []) n s
by_places codes x q None None true p s is =
    let same : x ≡ q = code_equal x q is in
    position_last (same_code q) codes x (unheld codes q s) (subst (λ z. same_code z x ≡ true) same (code_itself x))
by_places codes x q None None false p s is = none_more codes x q s is

-- One step of the loop that notes them.
pub place_step : (codes : List Code) (i : ℕ) (d q : Code) (held old : Option ℕ) → i < length codes → held ≡ place_of (take i codes) (get_or codes i d) → old ≡ place_of (take i codes) q
    → noted_place held (same_code (get_or codes i d) q) i old ≡ place_of (take (i + 1) codes) q
place_step codes i d q held old below is was =
    let x : Code = get_or codes i d in
    let count : length (take i codes) ≡ i = length-take-le i codes (omega arith) in
    ap (λ h. noted_place h (same_code x q) i old) is
    ∙ ap (λ o. noted_place (place_of (take i codes) x) (same_code x q) i o) was
    ∙ ap (λ n. noted_place (place_of (take i codes) x) (same_code x q) n (place_of (take i codes) q)) (sym count)
    ∙ sym (by_places (take i codes) x q (place_of (take i codes) x) (place_of (take i codes) q) (same_code x q) refl refl refl)
    ∙ ap (λ cs. place_of cs q) (sym (take_more codes i d below))

pub all_places : (codes : List Code) (i : ℕ) (q : Code) → i ≤ length codes → length codes ≤ i → place_of (take i codes) q ≡ place_of codes q
all_places codes i q le ge = let same : i ≡ length codes = omega arith in ap (λ n. place_of (take n codes) q) same ∙ ap (λ cs. place_of cs q) (take-length codes)
