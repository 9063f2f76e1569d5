-- Two lists, of which the second grows beside the first.
use Rattle.std.proofs.Common.{◌≡◌, ℕ, zero, suc, ◌-◌, ◌<◌, ◌≤◌, Bool, true, false, List, [], ◌∷◌, ◌++◌, length, slice_get, Some, refl, sym, ap, subst, ◌∙◌, arith, nat_lt}
use Rattle.std.proofs.lemmas.Option.{same_Some}
use Rattle.std.proofs.lemmas.Bool.Decides.{nat_tests}
use Rattle.name_entries.proofs.Found.{front, behind}

-- What stands at one place in both is related.
abbrev pub Beside : {A B : Type 0} → (ℕ → A → B → Type 0) → List A → List B → Type 0
Beside {A = A} {B = B} P xs ys = (i : ℕ) (x : A) (y : B) → slice_get xs i ≡ Some x → slice_get ys i ≡ Some y → P i x y

-- what stands behind is the new one
last_one : {A : Type 0} (x y : A) (j : ℕ) → slice_get (x ∷ []) j ≡ Some y → (j ≡ 0) × (x ≡ y)
last_one x y zero e = (refl, same_Some x y e)
last_one x y (suc j) e = absurd cc

pub one_more : {A B : Type 0} (P : ℕ → A → B → Type 0) (xs : List A) (ys after : List B) (at : ℕ) (x : A) (y : B) → after ≡ ys ++ y ∷ [] → at ≡ length ys
    → slice_get xs at ≡ Some x → P at x y → Beside P xs ys → Beside P xs after
one_more {A = A} {B = B} P xs ys after at x y pushed counted there new each i x' y' there' here = by (nat_lt i (length ys)) refl
  where
    by : (b : Bool) → nat_lt i (length ys) ≡ b → P i x' y'
    by true lt =
        let below : i < length ys = grind (arith, nat_tests) in
        each i x' y' there' (sym (front ys (y ∷ []) i below) ∙ ap (λ zs. slice_get zs i) (sym pushed) ∙ here)
    by false ge =
        let above : length ys ≤ i = grind (arith, nat_tests) in
        let is = last_one y y' (i - length ys) (sym (behind ys (y ∷ []) (i - length ys) i (omega arith)) ∙ ap (λ zs. slice_get zs i)
        (sym pushed) ∙ here) in
        let none : i - length ys ≡ 0 = is.0 in
        let place : at ≡ i = omega arith in
        let same : x ≡ x' = same_Some x x' (sym there ∙ ap (slice_get xs) place ∙ there') in
        subst (λ k. P k x' y') place (subst (λ x. P at x y') same (subst (λ y. P at x y) is.1 new))
