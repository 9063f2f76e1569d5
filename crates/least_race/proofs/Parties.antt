-- Sums and least values over the parties, after a change of one.
use Rattle.std.proofs.Common.{◌≡◌, ◌≢◌, ℕ, zero, suc, ◌+◌, ◌<◌, ◌≤◌, min, Bool, true, false, cond, ltb, eqb, List, [], ◌∷◌, ◌++◌, length, set, refl, sym, ap, subst, ⊎_elim, arith, eq-eqb}
use Rattle.std.proofs.lemmas.Bool.Decides.{nat_tests}
use mathlib.Core.Option.{some, some-ne-none, some-injective}
use lib.ListN.{get_elem?}
use Rattle.atomic_table.proofs.Lists.{at_set, at_snoc}
use Rattle.least_race.specs.declared.party.Offer.{Offer}
use Rattle.least_race.specs.declared.party.Party.{Party}
use Rattle.least_race.specs.Invariant.{total, lowest}
use Rattle.least_race.specs.Race.{times, once_below, least, spent, with_claim, with_pass, claimed}

pub times_append : (x : ℕ) (xs ys : List ℕ) → times x (xs ++ ys) ≡ times x xs + times x ys
times_append x [] ys = omega arith
times_append x (y ∷ xs) ys = let h = times_append x xs ys in omega arith

-- a number that was put at the end of a list stands in it
pub times_last : (n : ℕ) (xs : List ℕ) → 0 < times n (xs ++ n ∷ [])
times_last n [] = let e : cond {A = ℕ} (eqb n n) 1 0 ≡ 1 = ap (λ (b : Bool). cond {A = ℕ} b 1 0) (eq-eqb n n refl) in omega arith
times_last n (x ∷ xs) = let h = times_last n xs in omega arith

pub once_next : (x n : ℕ) → once_below x (n + 1) ≡ once_below x n + cond (eqb n x) 1 0
once_next x n = grind (arith, nat_tests)

cond_min : (t : Bool) (r a l c : ℕ) → a ≡ min l c → cond t (min r a) a ≡ min (cond t (min r l) l) c
cond_min true r a l c e = omega arith
cond_min false r a l c e = omega arith

cond_le : (t : Bool) (r l b : ℕ) → l ≤ b → cond t (min r l) l ≤ b
cond_le true r l b e = omega arith
cond_le false r l b e = omega arith

pub least_le : (i b : ℕ) (os : List Offer) → least i b os ≤ b
least_le i b [] = omega arith
least_le i b (o ∷ os) = cond_le (eqb o.word i) o.rank (least i b os) b (least_le i b os)

pub least_append : (i b : ℕ) (xs ys : List Offer) → least i b (xs ++ ys) ≡ min (least i b xs) (least i b ys)
least_append i b [] ys = let h = least_le i b ys in omega arith
least_append i b (o ∷ xs) ys = cond_min (eqb o.word i) o.rank (least i b (xs ++ ys)) (least i b xs) (least i b ys) (least_append i b xs ys)

module _ (f : Party → ℕ) where
  pub total_set : (vs : List Party) (p : ℕ) (v w : Party) → get_elem? vs p ≡ some v → total f (set vs p w) + f v ≡ total f vs + f w
  total_set [] p v w e = absurd (some-ne-none v (sym e))
  total_set (x ∷ xs) zero v w e = let same : f x ≡ f v = ap f (some-injective x v e) in omega arith
  total_set (x ∷ xs) (suc p) v w e = let h = total_set xs p v w e in omega arith

  pub total_snoc : (vs : List Party) (w : Party) → total f (vs ++ w ∷ []) ≡ total f vs + f w
  total_snoc [] w = omega arith
  total_snoc (x ∷ xs) w = let h = total_snoc xs w in omega arith

  pub total_le : (vs : List Party) (p : ℕ) (v : Party) → get_elem? vs p ≡ some v → f v ≤ total f vs
  total_le [] p v e = absurd (some-ne-none v (sym e))
  total_le (x ∷ xs) zero v e = let same : f x ≡ f v = ap f (some-injective x v e) in omega arith
  total_le (x ∷ xs) (suc p) v e = let h = total_le xs p v e in omega arith

  pub total_none : (vs : List Party) → ((q : ℕ) (u : Party) → get_elem? vs q ≡ some u → f u ≡ 0) → total f vs ≡ 0
  total_none [] h = refl
  total_none (x ∷ xs) h = let a = h 0 x refl in let b = total_none xs (λ q u e. h (suc q) u e) in omega arith

  module _ (b : ℕ) where
    pub lowest_top : (vs : List Party) → lowest b f vs ≤ b
    lowest_top [] = omega arith
    lowest_top (x ∷ xs) = let h = lowest_top xs in omega arith

    pub lowest_le : (vs : List Party) (p : ℕ) (v : Party) → get_elem? vs p ≡ some v → lowest b f vs ≤ f v
    lowest_le [] p v e = absurd (some-ne-none v (sym e))
    lowest_le (x ∷ xs) zero v e = let same : f x ≡ f v = ap f (some-injective x v e) in omega arith
    lowest_le (x ∷ xs) (suc p) v e = let h = lowest_le xs p v e in omega arith

    pub lowest_set : (vs : List Party) (p : ℕ) (v w : Party) → get_elem? vs p ≡ some v → min (f v) (lowest b f (set vs p w)) ≡ min (f w) (lowest b f vs)
    lowest_set [] p v w e = absurd (some-ne-none v (sym e))
    lowest_set (x ∷ xs) zero v w e = let same : f x ≡ f v = ap f (some-injective x v e) in omega arith
    lowest_set (x ∷ xs) (suc p) v w e = let h = lowest_set xs p v w e in omega arith

    pub lowest_snoc : (vs : List Party) (w : Party) → f w ≤ b → lowest b f (vs ++ w ∷ []) ≡ min (f w) (lowest b f vs)
    lowest_snoc [] w l = omega arith
    lowest_snoc (x ∷ xs) w l = let h = lowest_snoc xs w l in omega arith

    pub lowest_none : (vs : List Party) → ((q : ℕ) (u : Party) → get_elem? vs q ≡ some u → f u ≡ b) → lowest b f vs ≡ b
    lowest_none [] h = refl
    lowest_none (x ∷ xs) h = let a = h 0 x refl in let t = lowest_none xs (λ q u e. h (suc q) u e) in omega arith

pub place_inside : (vs : List Party) (p : ℕ) (v : Party) → get_elem? vs p ≡ some v → p < length vs
place_inside [] p v e = absurd (some-ne-none v (sym e))
place_inside (x ∷ xs) zero v e = omega arith
place_inside (x ∷ xs) (suc p) v e = let h = place_inside xs p v e in omega arith

-- a fact of each party, after one has changed, and after one has come
pub each_set : (P : Party → Type 0) (vs : List Party) (p : ℕ) (w : Party) → ((q : ℕ) (u : Party) → get_elem? vs q ≡ some u → P u) → P w → (q : ℕ) (u : Party) → get_elem? (set vs p w) q ≡ some u → P u
each_set P vs p w all mine q u e = ⊎_elim (λ (t : (q ≡ p) × (w ≡ u)). subst P t.1 mine) (λ (t : (q ≢ p) × (get_elem? vs q ≡ some u)). all q u t.1) (at_set vs p q w u e)

pub each_snoc : (P : Party → Type 0) (vs : List Party) (w : Party) → ((q : ℕ) (u : Party) → get_elem? vs q ≡ some u → P u) → P w → (q : ℕ) (u : Party) → get_elem? (vs ++ w ∷ []) q ≡ some u → P u
each_snoc P vs w all mine q u e = ⊎_elim (all q u) (λ (t : w ≡ u). subst P t mine) (at_snoc vs w u q e)

-- where one party has the whole, the others have nothing
pub alone : (f : Party → ℕ) (vs : List Party) (p : ℕ) (v : Party) → get_elem? vs p ≡ some v → f spent ≡ 0 → total f vs ≡ f v → (q : ℕ) (u : Party) → get_elem? (set vs p spent) q ≡ some u → f u ≡ 0
alone f vs p v at none whole q u e = let s = total_set f vs p v spent at in let l = total_le f (set vs p spent) q u e in omega arith

pub below_jobs : (v : Party) (n : ℕ) → n < v.jobs → claimed v n ≡ with_claim v n
below_jobs v n l = let t : ltb n v.jobs ≡ true = grind (arith, nat_tests) in ap (λ (b : Bool). cond b (with_claim v n) (with_pass v n)) t

pub past_jobs : (v : Party) (n : ℕ) → v.jobs ≤ n → claimed v n ≡ with_pass v n
past_jobs v n l = let t : ltb n v.jobs ≡ false = grind (arith, nat_tests) in ap (λ (b : Bool). cond b (with_claim v n) (with_pass v n)) t
